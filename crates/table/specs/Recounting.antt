-- Definitions that must be believed: a table's free bytes counted, whatever its two numbers say. So a table is taken over that an earlier
-- version kept without them.
use Rattle.std.specs.Prelude.{not, [], ◌∷◌}
use Rattle.common.specs.Refusals.{◌gives◌, unless}
use Rattle.table.specs.FreeBytes.{counted}
use Rattle.table.specs.Sound.{slots_sound}
use Rattle.table.specs.Table.{Answer, answer}
use Rattle.table.specs.declared.table.Table.{Table}

-- 1 if the slots are not sound, with the table that was given; else the table with its free bytes counted
unfoldable pub recount_of : Table → Answer
recount_of t = unless (λ n. answer n t) (not (slots_sound t) gives 1 ∷ []) (answer 0 (counted t))
