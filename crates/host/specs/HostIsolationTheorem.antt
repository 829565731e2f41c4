-- Laws that the checker has shown: demand 3 for hosts, for any bytes that hold a sound table, any memory of its length and any list.
-- The statement is `HostIsolation` in HostIsolation.antt; `host_isolation`, at the end of this file, proves it. Nothing is assumed.
use Rattle.std.specs.Prelude.{Bool, true, false, List, [], ◌∷◌, ◌≡◌, refl, ℕ, zero, suc, ◌<◌, eqb, length, get_or, set}
use Rattle.std.proofs.Common.{sym, ap, ◌∙◌, arith, eq-eqb}
use Rattle.std.proofs.Math.ListN.{length-set}
use Rattle.common.specs.Choice.{when◌then◌else◌}
use Rattle.common.specs.Repetition.{times}
use Rattle.cpu.proofs.MachineLaws.{times_shaped}
use Rattle.supervisor.specs.Calls.{Change, load, unload, feed, drain, Call, change, run, query, refusal, patch_of, counted_after, after_accepted, after_call}
use Rattle.supervisor.specs.Events.{Event, call, write, after_event, after_events}
use Rattle.system.specs.System.{System, system, slot_of, patched, machine_in}
use Rattle.table.specs.Table.{no_slot, slot_at, with_slot}
use Rattle.system.specs.Running.{after_quantum, slot_quantum, slot_quanta, after_run}
use Rattle.table.specs.Sound.{table_sound}
use Rattle.supervisor.proofs.IsolationTheorem.{isolation}
use Rattle.supervisor.proofs.LockTheorem.{lock_kept}
use Rattle.supervisor.specs.CallLaws.{query_leaves}
use Rattle.table.specs.declared.table.Slot.{Slot}
use Rattle.table.specs.declared.table.Table.{Table}
use Rattle.host.specs.HostCalls.{table_bytes_after, HostBuffers, system_of, host_after_call}
use Rattle.host.specs.HostIsolation.{host_after_event, host_after_events, HostIsolation}
use Rattle.encoding.specs.TableEncoding.{table_from_bytes, table_bytes, table_length}
use Rattle.encoding.specs.StateRoundTripLaws.{StateShaped}
use Rattle.encoding.specs.TableRoundTripLaws.{SlotsShaped, TableShaped, counted_shaped, table_decoded, table_length_law, table_shaped}
use Rattle.supervisor.specs.CallDefinitions.{change_definitions}

-- ---- every call keeps the lengths that a table's bytes need

shaped_at : (ss : List Slot) (k : ℕ) → SlotsShaped ss → k < length ss → StateShaped (get_or ss k no_slot).state
shaped_at [] k h q = absurd (omega arith)
shaped_at (s ∷ ss) zero h q = h.0
shaped_at (s ∷ ss) (suc k) h q = shaped_at ss k h.1 (omega arith)

shaped_set : (ss : List Slot) (k : ℕ) (s : Slot) → SlotsShaped ss → (k < length ss → StateShaped s.state) → SlotsShaped (set ss k s)
shaped_set [] k s h q = tt
shaped_set (x ∷ xs) zero s h q = (q (omega arith), h.1)
shaped_set (x ∷ xs) (suc k) s h q = (h.0, shaped_set xs k s h.1 (λ z. q (omega arith)))

module _ (t : Table) (h : TableShaped t) (k : ℕ) where
  at_slot : k < length t.slots → StateShaped (slot_at t k).state
  unfolding slot_at
  at_slot q = shaped_at t.slots k h.all q

  with_shaped : (s : Slot) → (k < length t.slots → StateShaped s.state) → TableShaped (with_slot t k s)
  unfolding with_slot
  with_shaped s q = record { eight = length-set t.slots k s ∙ h.eight; all = shaped_set t.slots k s h.all q }

-- a machine that stepped
after_quantum_shaped : (s : Slot) (memory : List ℕ) → StateShaped s.state → StateShaped (after_quantum s memory).state
unfolding machine_in
after_quantum_shaped s memory h = times_shaped s.partition.quantum (machine_in s memory) h

quantum_shaped : (k : ℕ) (x : System) → TableShaped x.table → TableShaped (slot_quantum k x).table
unfolding slot_quantum patched
quantum_shaped k x h = with_shaped x.table h k _ (λ q. after_quantum_shaped (slot_of x k) x.memory (at_slot x.table h k q))

quanta_shaped : (n : ℕ) (x : System) → TableShaped x.table → TableShaped (slot_quanta n x).table
unfolding slot_quanta
quanta_shaped zero x h = h
quanta_shaped (suc n) x h = quantum_shaped n (slot_quanta n x) (quanta_shaped n x h)

rounds_shaped : (n : ℕ) (x : System) → TableShaped x.table → TableShaped (times n (slot_quanta 8) x).table
unfolding times
rounds_shaped zero x h = h
rounds_shaped (suc n) x h = quanta_shaped 8 (times n (slot_quanta 8) x) (rounds_shaped n x h)

patch_shaped : (c : Change) (s : Slot) → StateShaped s.state → StateShaped (patch_of c s).slot.state
unfolding change_definitions
patch_shaped (load location file) s h = record { registers = refl; returns = refl }
patch_shaped unload s h = record { registers = refl; returns = refl }
patch_shaped (feed bytes) s h = h
patch_shaped (drain room) s h = h

counted_after_shaped : (c : Change) (t : Table) → TableShaped t → TableShaped (counted_after c t)
unfolding counted_after
counted_after_shaped (load location file) t h = counted_shaped t h
counted_after_shaped unload t h = counted_shaped t h
counted_after_shaped (feed bytes) t h = h
counted_after_shaped (drain room) t h = h

accepted_shaped : (c : Call) (x : System) → TableShaped x.table → TableShaped (after_accepted c x).table
unfolding after_accepted patched after_run
accepted_shaped (change k c) x h = counted_after_shaped c _ (with_shaped x.table h k _ (λ q. patch_shaped c (slot_of x k) (at_slot x.table h k q)))
accepted_shaped (run n) x h = rounds_shaped n x h
accepted_shaped (query q) x h = h

-- ---- one event

-- a host holds that table and that memory
record HostHolds (h : HostBuffers) (y : System) : Type 0 where
  same : system_of h ≡ y
  whole : length h.table ≡ table_length

-- by whether the call is accepted
call_holds : (c : Call) (h : HostBuffers) → length h.table ≡ table_length → HostHolds (host_after_call c h) (after_call c (system_of h))
unfolding host_after_call table_bytes_after after_call when◌then◌else◌
call_holds c h whole = rw (eq-eqb (length h.table) table_length whole) (go (eqb (refusal c (system_of h)) 0))
  where
    x : System
    x = system_of h

    go : (b : Bool)
        → HostHolds (record { table = when b then table_bytes (when b then after_accepted c x else x).table else h.table; memory = (when b then after_accepted c x else x).memory })
        (when b then after_accepted c x else x)
    go true =
        let t = accepted_shaped c x (table_shaped h.table) in
        record { same = ap (λ (z : Table). system z (after_accepted c x).memory) (table_decoded (after_accepted c x).table t); whole = table_length_law (after_accepted c x).table t }
    go false = record { same = refl; whole = whole }

event_holds : (e : Event) (h : HostBuffers) → length h.table ≡ table_length → HostHolds (host_after_event e h) (after_event e (system_of h))
unfolding host_after_event after_event
event_holds (call (change k c)) h whole = call_holds (change k c) h whole
event_holds (call (run n)) h whole = call_holds (run n) h whole
event_holds (call (query q)) h whole = record { same = sym (query_leaves q (system_of h)); whole = whole }
event_holds (write i b) h whole = record { same = refl; whole = whole }

-- ---- the list

events_hold : (list : List Event) (h : HostBuffers) → length h.table ≡ table_length → HostHolds (host_after_events list h) (after_events list (system_of h))
unfolding host_after_events after_events
events_hold [] h whole = record { same = refl; whole = whole }
events_hold (e ∷ rest) h whole =
    let f = event_holds e h whole in
    let r = events_hold rest (host_after_event e h) f.whole in
    record { same = r.same ∙ ap (after_events rest) f.same; whole = r.whole }

-- Demand 3 for hosts.
pub host_isolation : (h : HostBuffers) (list : List Event) → length h.table ≡ table_length → table_sound (table_from_bytes h.table) ≡ true
    → length h.memory ≡ (table_from_bytes h.table).size → HostIsolation h list
host_isolation h list whole ok fits =
    let f = events_hold list h whole in
    let d = isolation (system_of h) list ok fits in
    record {
      holds = f.same;
      whole = f.whole;
      isolation = d;
      machine = λ k q m l. ap (λ (y : System). machine_in (slot_of y k) y.memory) f.same ∙ d.machine k q m l;
      locked = lock_kept (system_of h) list ok fits;
    }
