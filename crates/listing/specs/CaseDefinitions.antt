-- Names for lists of definitions, which the worked cases of the bench run open together. Nothing here has to be believed.
use Rattle.common.specs.Repetition.{times}
use Rattle.cpu.specs.StepDefinitions.{step_definitions}
use Rattle.loader.specs.Fresh.{fresh_state, fresh_bytes, fresh_machine}
use Rattle.pattern.specs.FileDefinitions.{file_definitions}
use Rattle.table.specs.TableDefinitions.{sound_definitions}
use Rattle.supervisor.specs.CallDefinitions.{refusal_definitions, change_definitions, run_definitions}
use Rattle.queries.specs.Queries.{report_of}
use Rattle.supervisor.specs.Calls.{after_accepted, after_call, counted_after}
use Rattle.supervisor.specs.Loading.{partition_for}
use Rattle.table.specs.Table.{new_table, new_refusal}
use Rattle.listing.specs.LoneLines.{lone_until, lone_report, lone_lines}
use Rattle.listing.specs.TextDefinitions.{text_definitions}

-- what refuses a load into a new table
unfoldable pub load_definitions : Type 0
unfolding file_definitions sound_definitions refusal_definitions new_table new_refusal partition_for
load_definitions = Unit {0}

-- the lone machine of a file, its rounds and its lines
unfoldable pub lone_definitions : Type 0
unfolding step_definitions file_definitions text_definitions times partition_for fresh_state fresh_bytes fresh_machine lone_lines lone_until lone_report
lone_definitions = Unit {0}

-- a load, a round and a report
unfoldable pub round_definitions : Type 0
unfolding load_definitions step_definitions change_definitions run_definitions after_call after_accepted counted_after fresh_bytes report_of
round_definitions = Unit {0}
