-- Definitions that must be believed: the parameters of a pattern, their ranges, the form of their file, and how they look as bytes
-- (document 01, "Pattern file, form 1", `PB`; document 02, U6: form 2 has the locked length too).
use Rattle.std.specs.Prelude.{ℕ, Bool, true, not, ◌&&◌, List, [], ◌∷◌, ◌≡◌, Result, Ok, Err, ltb, eqb, get_or, take}
use Rattle.common.specs.Choice.{when◌then◌else◌}
use Rattle.common.specs.Layout.{layout_sound}
use Rattle.common.specs.Ranges.{is_one_to}
use Rattle.common.specs.Refusals.{refusal_number}
use Rattle.common.specs.declared.refusals.Refusal.{Refusal}
use Rattle.common.specs.Tests.{all}
use Rattle.slices.specs.Numbers.{u16_bytes, u16_at}
use Rattle.slices.specs.Slices.{concat}
use Rattle.pattern.specs.declared.parameters.Form.{Form}
use Rattle.pattern.specs.declared.parameters.Form.TheVariants.{Plain, Locked}
use Rattle.pattern.specs.declared.parameters.Parameters.{Parameters}

-- a sound layout; start below the window size; quantum 1 to 255
unfoldable pub is_in_range : Parameters → Bool
is_in_range p = all (layout_sound p.layout ∷ ltb p.start.0 p.layout.window ∷ is_one_to p.quantum 255 ∷ [])

-- the number of a form of the code
abbrev pub form_number : Form → ℕ
form_number Plain = 1
form_number Locked = 2

-- taking a number for a form: the form of that number, or, where there is none, refusal 7
abbrev pub TakesForm : ℕ → Result Form Refusal → Type 0
TakesForm n (Ok form) = form_number form ≡ n
TakesForm n (Err refusal) = (refusal_number refusal ≡ 7) × ((not (eqb n 1) && not (eqb n 2)) ≡ true)

-- the form of a pattern's file: 1 exactly if nothing is locked
unfoldable pub form_of : Parameters → ℕ
form_of p = when eqb p.layout.locked 0 then 1 else 2

-- parameters as bytes, the locked length last
unfoldable pub parameters_bytes : Parameters → List ℕ
parameters_bytes p =
    concat (
    u16_bytes p.layout.window
    ∷ u16_bytes p.layout.input
    ∷ u16_bytes p.layout.output
    ∷ u16_bytes p.start.0
    ∷ (p.quantum ∷ [])
    ∷ u16_bytes p.layout.locked
    ∷ []
    )

-- how many bytes that is
abbrev pub parameters_bytes_length : ℕ
parameters_bytes_length = 11

-- the length of the body of `PB` in a file of that form: form 1 has no locked length
unfoldable pub parameters_length : ℕ → ℕ
parameters_length form = when eqb form 1 then 9 else parameters_bytes_length

-- the body of `PB` in the pattern's file: the first nine of these bytes in form 1, all of them in form 2
abbrev pub parameters_body : Parameters → List ℕ
parameters_body p = take (parameters_length (form_of p)) (parameters_bytes p)

-- the parameters that such a body holds: a byte past its end counts as 0, so nine bytes lock nothing
unfoldable pub parameters_from_bytes : List ℕ → Parameters
parameters_from_bytes body =
    record {
      layout = record { window = u16_at body 0; input = u16_at body 2; output = u16_at body 4; locked = u16_at body 9 };
      start = record { 0 = u16_at body 6 };
      quantum = get_or body 8 0;
    }
