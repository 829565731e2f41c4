-- Names for lists of definitions: `unfolding decode_definitions` opens all that the table of codes is made of.
-- Nothing here has to be believed.
use Rattle.common.specs.Choice.{when◌then◌else◌}
use Rattle.decode.specs.Decode.{decode_of, each_of_four, first_and_rest, rest_and_last}

unfoldable pub decode_definitions : Type 0
unfolding when◌then◌else◌ each_of_four first_and_rest rest_and_last decode_of
decode_definitions = Unit {0}
