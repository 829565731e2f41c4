-- `supervisor::feeding::feed`: an accepted call names one of the eight slots, and its bytes fit the input buffer (ChangeLaws.antt).
use Rattle.std.proofs.Common.{arith, rules}
use Rattle.supervisor.specs.Calls as calls
use Rattle.supervisor.proofs.ChangeLaws.{feed_accepted}
use Rattle.supervisor.specs.Feeding.{feed_patch}
use Rattle.table.specs.CheckLaws.{passed_with}
use Rattle.table.specs.Table.{slot_at}
use Rattle.supervisor.proofs.LoadedSlotLaws.{loaded_end}
use Rattle.supervisor.specs.CallLaws.{refused_call, accepted_outcome}
use Rattle.supervisor.specs.CallDefinitions.{patch_definitions}
use Rattle.system.specs.System.{system}
use Rattle.supervisor.proofs.feeding.feed.Goals as goal

pub returns-in_err-map_err : goal.returns-in_err-map_err
returns-in_err-map_err c = let start = c.args in
    refused_call (calls.change start.slot (calls.feed start.bytes.now)) (system start.table start.memory.now) c.check_feed.result _ _ _ c.check_feed.ensures
    c.map_err.ensures.cases c.in_err-map_err.was c.from_residual.ensures.1 (λ q y p. search rules)

pub offset_bounds-table-slot : goal.offset_bounds-table-slot
offset_bounds-table-slot c = let start = c.args in
    let passed = passed_with c.check_feed.result _ _ c.map_err.ensures.variant c.in_ok-map_err.was in
    omega (arith, (feed_accepted _ start.slot start.bytes.now c.check_feed.ensures passed).0.holds.slot)

pub bounds-table-slot : goal.bounds-table-slot
bounds-table-slot c = let start = c.args in
    let passed = passed_with c.check_feed.result _ _ c.map_err.ensures.variant c.in_ok-map_err.was in
    (feed_accepted _ start.slot start.bytes.now c.check_feed.ensures passed).0.holds.slot

pub input_location-requires : goal.input_location-requires
unfolding slot_at
input_location-requires c = let start = c.args in
    let passed = passed_with c.check_feed.result _ _ c.map_err.ensures.variant c.in_ok-map_err.was in
    loaded_end start.table start.slot (feed_accepted _ start.slot start.bytes.now c.check_feed.ensures passed).0.holds

pub overflow_cast-bytes : goal.overflow_cast-bytes
overflow_cast-bytes c = let start = c.args in
    let passed = passed_with c.check_feed.result _ _ c.map_err.ensures.variant c.in_ok-map_err.was in
    let h = feed_accepted _ start.slot start.bytes.now c.check_feed.ensures passed in
    omega (arith, h.1, h.0.holds.loaded.partition.layout.input.fits)

pub returns : goal.returns
unfolding patch_definitions feed_patch
returns c = let start = c.args in
    let passed = passed_with c.check_feed.result _ _ c.map_err.ensures.variant c.in_ok-map_err.was in
    accepted_outcome (calls.change start.slot (calls.feed start.bytes.now)) _ _ _ c.check_feed.ensures passed (rw (c.with_slot.ensures, c.fed_state-state.ensures, c.copy.ensures, c.input_location.ensures))
