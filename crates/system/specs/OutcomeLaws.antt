-- Laws that the checker has shown: what a refused call and an accepted one leave, whatever the call.
use Rattle.std.specs.Prelude.{ℕ, List, ◌≡◌, Result, Ok, Err, IsErrAnd, MatchResult}
use Rattle.std.proofs.Common.{sym, ap, ◌∙◌, ne_eqb}
use Rattle.common.specs.Choice.{when◌then◌else◌}
use Rattle.common.specs.RefusalLaws.{number_some}
use Rattle.common.specs.Refusals.{refusal_in}
use Rattle.common.specs.declared.refusals.Refusal.{Refusal}
use Rattle.system.specs.System.{System, answer_outcome, outcome, outcome_by, system}
use Rattle.table.specs.CheckLaws.{refused_with}
use Rattle.table.specs.declared.table.RefusedCall.{RefusedCall}
use Rattle.table.specs.declared.table.Table.{Table}

pub refused_by : (m : ℕ) (accepted x : System) {n : ℕ} → n ≡ m → (n ≡ 0 → ⊥) → outcome n x.table x.memory ≡ outcome_by m accepted x
unfolding when◌then◌else◌
refused_by m accepted x {n} e some = rw (← e, ne_eqb n 0 some)

pub accepted_by : (m : ℕ) (accepted x : System) (t : Table) (memory : List ℕ) {n : ℕ} → n ≡ m → n ≡ 0 → system t memory ≡ accepted → outcome 0 t memory ≡ outcome_by m accepted x
unfolding when◌then◌else◌
accepted_by m accepted x t memory e none h = let z : m ≡ 0 = sym e ∙ none in rw (z, ← h)

-- a call that hands on what a check refused, with the table that it was given
pub refused_answer : {A : Type 0} {P : Refusal → RefusedCall → Type 0} (m : ℕ) (accepted x : System) (check : Result A Refusal) (mapped : Result A RefusedCall)
    (e : RefusedCall) (r : Result Table RefusedCall) → refusal_in check ≡ m
    → MatchResult check (λ a. mapped ≡ Ok a) (λ q. IsErrAnd mapped (P q)) → mapped ≡ Err e → IsErrAnd r (λ y. y ≡ e)
    → ((q : Refusal) (y : RefusedCall) → P q y → y ≡ record { refusal = q; table = x.table })
    → answer_outcome r x.memory ≡ outcome_by m accepted x
refused_answer m accepted x check mapped e r refused cases was h with_table =
    let (q, is, same) = refused_with check mapped e r x.table cases was h with_table in
    ap (λ (z : Result Table RefusedCall). answer_outcome z x.memory) is ∙ refused_by m accepted x (sym same ∙ refused) (number_some q)
