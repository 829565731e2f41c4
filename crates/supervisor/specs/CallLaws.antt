-- Laws that the checker has shown: what a refused and an accepted call leave, for every call alike; what a run does; and that a query
-- changes nothing.
use Rattle.std.specs.Prelude.{ℕ, Bool, true, false, List, ◌≡◌, refl, Result, Ok, Err, IsErrAnd, MatchResult}
use Rattle.std.proofs.Common.{ap, ◌∙◌}
use Rattle.common.specs.Choice.{when◌then◌else◌}
use Rattle.common.specs.Refusals.{refusal_in}
use Rattle.common.specs.declared.refusals.Refusal.{Refusal}
use Rattle.queries.specs.Queries.{Query}
use Rattle.supervisor.specs.Calls.{Call, query, run, refusal, is_accepted, after_accepted, after_call, outcome_of}
use Rattle.system.specs.System.{answer_outcome, outcome, System, system}
use Rattle.system.specs.OutcomeLaws.{refused_by, refused_answer, accepted_by}
use Rattle.system.specs.Running.{run_outcome_of}
use Rattle.table.specs.FreeBytes.{counted}
use Rattle.table.proofs.GapLaws.{counted_by_partitions_law}
use Rattle.table.specs.Gaps.{counted_by_partitions}
use Rattle.table.specs.Sound.{slots_sound}
use Rattle.table.specs.SoundLaws.{slots_fact}
use Rattle.table.specs.declared.table.RefusedCall.{RefusedCall}
use Rattle.table.specs.declared.table.Table.{Table}

pub refused_outcome : (c : Call) (x : System) {n : ℕ} → n ≡ refusal c x → (n ≡ 0 → ⊥) → outcome n x.table x.memory ≡ outcome_of c x
unfolding outcome_of after_call
refused_outcome c x e some = refused_by (refusal c x) (after_accepted c x) x e some

pub refused_call : {A : Type 0} {P : Refusal → RefusedCall → Type 0} (c : Call) (x : System) (check : Result A Refusal) (mapped : Result A RefusedCall)
    (e : RefusedCall) (r : Result Table RefusedCall) → refusal_in check ≡ refusal c x
    → MatchResult check (λ a. mapped ≡ Ok a) (λ q. IsErrAnd mapped (P q)) → mapped ≡ Err e → IsErrAnd r (λ y. y ≡ e)
    → ((q : Refusal) (y : RefusedCall) → P q y → y ≡ record { refusal = q; table = x.table })
    → answer_outcome r x.memory ≡ outcome_of c x
unfolding outcome_of after_call
refused_call c x check mapped e r refused cases was h with_table = refused_answer (refusal c x) (after_accepted c x) x check mapped e r refused cases was h with_table

pub accepted_outcome : (c : Call) (x : System) (t : Table) (memory : List ℕ) {n : ℕ} → n ≡ refusal c x → n ≡ 0 → system t memory ≡ after_accepted c x
    → outcome 0 t memory ≡ outcome_of c x
unfolding outcome_of after_call
accepted_outcome c x t memory e none h = accepted_by (refusal c x) (after_accepted c x) x t memory e none h

-- what `run` of crate system is held to is what a run is among the calls
pub run_outcome : (count : ℕ) (x : System) → run_outcome_of count x ≡ outcome_of (run count) x
unfolding run_outcome_of outcome_of after_call refusal after_accepted
run_outcome count x = refl

-- a table counted after a patch that leaves sound slots
pub counted_patch : (y : System) (t next : Table) (memory : List ℕ) → t ≡ counted_by_partitions next → system next memory ≡ y → slots_sound y.table ≡ true
    → system t memory ≡ system (counted y.table) y.memory
counted_patch y t next memory e f sound =
    ap (λ (z : Table). system z memory) e
    ∙ ap (λ (z : System). system (counted_by_partitions z.table) z.memory) f
    ∙ ap (λ (z : Table). system z y.memory) (counted_by_partitions_law y.table (slots_fact y.table sound))

pub query_leaves : (q : Query) (x : System) → after_call (query q) x ≡ x
unfolding after_call after_accepted when◌then◌else◌
query_leaves q x = go (is_accepted (query q) x)
  where
    go : (b : Bool) → (when b then x else x) ≡ x
    go true = refl
    go false = refl
