-- Names for lists of definitions: `unfolding file_definitions` opens all that reading and writing a file is made of, so that a worked
-- case computes. Nothing here has to be believed.
use Rattle.common.specs.ConditionDefinitions.{condition_definitions}
use Rattle.common.specs.Choice.{when◌then◌else◌}
use Rattle.common.specs.Layout.{layout_sound}
use Rattle.common.specs.Refusals.{unless}
use Rattle.common.specs.Tests.{and_all}
use Rattle.pattern.specs.Frame.{behind_record, body_length, body_of, has_frame, record_of}
use Rattle.pattern.specs.Image.{ends_in_zero, trim}
use Rattle.pattern.specs.Parameters.{is_in_range, form_of, parameters_bytes, parameters_length, parameters_from_bytes}
use Rattle.pattern.specs.Reader.{code_conditions, code_body_of, end_conditions, input_conditions, input_body_of, parameters_conditions, read_of, version_conditions}
use Rattle.pattern.specs.Writer.{records_of, write_conditions, write_of}

-- records, the window and the parameters
unfoldable pub record_definitions : Type 0
unfolding record_of body_length body_of behind_record has_frame trim ends_in_zero layout_sound is_in_range form_of parameters_bytes parameters_length parameters_from_bytes and_all
record_definitions = Unit {0}

-- reading and writing
unfoldable pub file_definitions : Type 0
unfolding record_definitions unless when◌then◌else◌ version_conditions parameters_conditions code_conditions input_conditions end_conditions read_of code_body_of input_body_of records_of write_conditions write_of
file_definitions = Unit {0}

-- what refuses a writing
unfoldable pub write_definitions : Type 0
unfolding condition_definitions write_conditions write_of
write_definitions = Unit {0}
