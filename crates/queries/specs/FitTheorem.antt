-- Laws that the checker has shown: `fit_found`, the proof of FitFound.antt's statement.
use Rattle.std.specs.Prelude.{ℕ, ◌-◌, ◌≤◌, ◌<◌, Bool, not, [], ◌∷◌, ◌≡◌}
use Rattle.std.proofs.Math.Dec.{ltb}
use Rattle.std.proofs.Math.Bool.{true, false}
use Rattle.std.proofs.Math.Logic.{⊎_elim}
use Rattle.std.proofs.Math.Path.{refl, ap}
use Rattle.std.proofs.Common.{sym, ◌∙◌, arith, le-ltb, lt-ltb, ltb-true, ltb-false}
use Rattle.std.proofs.Math.Decide.{dec_le}
use Rattle.common.specs.ConditionDefinitions.{condition_definitions}
use Rattle.common.specs.Layout.{layout_size}
use Rattle.common.specs.Refusals.{◌gives◌, unless}
use Rattle.common.specs.TestLaws.{one_to_fact, one_to_test}
use Rattle.queries.specs.Queries.{FitAnswer, query_conditions, fit_answer, fit_of}
use Rattle.table.specs.TableConditions.{table_conditions}
use Rattle.table.specs.Extents.{empty_extent, extent_size, free_extents, widest_extent}
use Rattle.table.proofs.ExtentsTheorem.{extent_apart, free_extents_listed}
use Rattle.queries.specs.FitFound.{IsBestFit, FitFound, NoneHoldsSize}
use Rattle.table.proofs.ExtentTotalLaws.{widest_most, widest_less}
use Rattle.queries.specs.FitLaws.{Wins, best_wins, best_listed}
use Rattle.queries.specs.FitQuery.{is_size_in_range, best_fit, fit_conditions}
use Rattle.table.specs.FreeExtentsListed.{IsFreeExtent, ◌IsOneOf◌, FreeExtentsListed}
use Rattle.table.specs.Sound.{is_clear_of_others, table_sound}
use Rattle.table.specs.SoundLaws.{SlotsSound, table_fact, Apart, apart_below, apart_behind, clear_test}
use Rattle.table.specs.Table.{partition_end, slot_at}
use Rattle.table.specs.declared.extents.Extent.{Extent}
use Rattle.table.specs.declared.table.Partition.{Partition}
use Rattle.table.specs.declared.table.Table.{Table}

-- ---- the best free extent

module _ (t : Table) (size : ℕ) (sound : table_sound t ≡ true) (some : 1 ≤ size) where
  lists : FreeExtentsListed t
  lists = free_extents_listed t (table_fact t sound).slots

  best_of_free : (f : Extent) → f IsOneOf free_extents t → size ≤ extent_size f → Wins size (best_fit t size) f
  unfolding best_fit
  best_of_free f m q = best_wins size empty_extent 0 (free_extents t) lists.rising (omega arith) f m q

  best_one : size ≤ extent_size (best_fit t size) → best_fit t size IsOneOf free_extents t
  unfolding best_fit
  best_one q = ⊎_elim (λ u. absurd (omega (arith, ap extent_size u))) (λ u. u) (best_listed size empty_extent (free_extents t))

  -- it holds the size exactly if the widest does
  best_holds : size ≤ widest_extent t → size ≤ extent_size (best_fit t size)
  best_holds q = go (dec_le size (extent_size (best_fit t size)))
    where
      shorter : ¬ (size ≤ extent_size (best_fit t size)) → (f : Extent) → f IsOneOf free_extents t → Dec (size ≤ extent_size f) → extent_size f < size
      shorter no_best f m (yes r) = absurd (no_best (best_of_free f m r).holds)
      shorter no_best f m (no r) = omega arith

      go : Dec (size ≤ extent_size (best_fit t size)) → size ≤ extent_size (best_fit t size)
      go (yes r) = r
      go (no r) = absurd (omega (arith, widest_less size some (free_extents t) (λ f m. shorter r f m (dec_le size (extent_size f)))))

  widest_holds : size ≤ extent_size (best_fit t size) → size ≤ widest_extent t
  widest_holds q = omega (arith, widest_most (free_extents t) (best_fit t size) (best_one q))

  best_too_short : ltb (extent_size (best_fit t size)) size ≡ ltb (widest_extent t) size
  best_too_short = go (dec_le size (widest_extent t))
    where
      go : Dec (size ≤ widest_extent t) → ltb (extent_size (best_fit t size)) size ≡ ltb (widest_extent t) size
      go (yes q) = le-ltb _ _ (best_holds q) ∙ sym (le-ltb _ _ q)
      go (no q) = lt-ltb _ _ (shorter (dec_le size (extent_size (best_fit t size)))) ∙ sym (lt-ltb (widest_extent t) size (omega arith))
        where
          shorter : Dec (size ≤ extent_size (best_fit t size)) → extent_size (best_fit t size) < size
          shorter (yes r) = absurd (q (widest_holds r))
          shorter (no r) = omega arith

  best_place : size ≤ widest_extent t → IsBestFit t size (best_fit t size)
  best_place q =
      let holds : size ≤ extent_size (best_fit t size) = best_holds q in
      record {
        free = lists.each (best_fit t size) (best_one holds);
        holds = holds;
        shortest = λ f free r. ⊎_elim (λ u. omega arith) (λ u. omega (arith, u.0)) (best_of_free f (lists.all f free) r).no_worse;
        lowest = λ f free same. ⊎_elim (λ u. absurd (omega arith)) (λ u. u.1) (best_of_free f (lists.all f free) (omega arith)).no_worse;
      }

-- ---- what a fit answers

module _ (t : Table) (size : ℕ) where
  -- the answer, by what each condition says
  answer_by : (sound range short : Bool) → FitAnswer
  answer_by sound range short = unless (λ n. fit_answer n 0) (not sound gives 1 ∷ not range gives 17 ∷ short gives 18 ∷ []) (fit_answer 0 (best_fit t size).start)

  answer_by_law : fit_of t size ≡ answer_by (table_sound t) (is_size_in_range size) (ltb (widest_extent t) size)
  unfolding fit_of query_conditions table_conditions fit_conditions answer_by
  answer_by_law = refl

  pub fit_unsound : table_sound t ≡ false → fit_of t size ≡ fit_answer 1 0
  unfolding answer_by condition_definitions
  fit_unsound h = answer_by_law ∙ rw h refl

  pub fit_other_size : table_sound t ≡ true → is_size_in_range size ≡ false → fit_of t size ≡ fit_answer 17 0
  unfolding answer_by condition_definitions
  fit_other_size h r = answer_by_law ∙ rw (h, r) refl

  fit_too_long : table_sound t ≡ true → is_size_in_range size ≡ true → ltb (widest_extent t) size ≡ true → fit_of t size ≡ fit_answer 18 0
  unfolding answer_by condition_definitions
  fit_too_long h r w = answer_by_law ∙ rw (h, r, w) refl

  fit_start : table_sound t ≡ true → is_size_in_range size ≡ true → ltb (widest_extent t) size ≡ false → fit_of t size ≡ fit_answer 0 (best_fit t size).start
  unfolding answer_by condition_definitions
  fit_start h r w = answer_by_law ∙ rw (h, r, w) refl

  -- the same, by the best extent
  module _ (h : table_sound t ≡ true) (r : is_size_in_range size ≡ true) where
    short : ltb (extent_size (best_fit t size)) size ≡ ltb (widest_extent t) size
    short = best_too_short t size h (one_to_fact size 40960 r).some

    pub fit_none : extent_size (best_fit t size) < size → fit_of t size ≡ fit_answer 18 0
    fit_none q = fit_too_long h r (sym short ∙ lt-ltb _ _ q)

    pub fit_best : size ≤ extent_size (best_fit t size) → fit_of t size ≡ fit_answer 0 (best_fit t size).start
    fit_best q = fit_start h r (sym short ∙ le-ltb _ _ q)

  -- an accepted fit: the table is sound, the size is not 0, and the answer is the start of the best place
  record FitAccepted : Type 0 where
    sound : table_sound t ≡ true
    some : 1 ≤ size
    place : IsBestFit t size (best_fit t size)
    start : (fit_of t size).location.0 ≡ (best_fit t size).start

  fit_accepted : (fit_of t size).refusal ≡ 0 → FitAccepted
  unfolding answer_by condition_definitions
  fit_accepted e = go (table_sound t) refl (is_size_in_range size) refl (ltb (widest_extent t) size) refl (sym (ap (λ (a : FitAnswer). a.refusal) answer_by_law) ∙ e)
    where
      go : (h : Bool) → table_sound t ≡ h → (r : Bool) → is_size_in_range size ≡ r → (w : Bool) → ltb (widest_extent t) size ≡ w → (answer_by h r w).refusal ≡ 0 → FitAccepted
      go true h true r false w e =
          record {
            sound = h;
            some = (one_to_fact size 40960 r).some;
            place = best_place t size h (one_to_fact size 40960 r).some (ltb-false _ _ w);
            start = ap (λ (a : FitAnswer). a.location.0) (fit_start h r w);
          }
      go true h true r true w e = absurd (omega arith)
      go true h false r w z e = absurd (omega arith)
      go false h r q w z e = absurd (omega arith)

  -- a start has sixteen bits
  pub fit_start_few : (fit_of t size).location.0 < 65536
  unfolding answer_by condition_definitions
  fit_start_few = go (dec_le 1 (fit_of t size).refusal)
    where
      refused : (h r w : Bool) → 1 ≤ (answer_by h r w).refusal → (answer_by h r w).location.0 ≡ 0
      refused true true true e = refl
      refused true true false e = absurd (omega arith)
      refused true false w e = refl
      refused false r w e = refl

      accepted : FitAccepted → (fit_of t size).location.0 < 65536
      accepted a =
          let inside : (best_fit t size).start < t.size = (a.place.free.all (best_fit t size).start (omega arith) a.place.free.some).0 in
          omega (arith, a.start, (table_fact t a.sound).slots.size.fits)

      go : Dec (1 ≤ (fit_of t size).refusal) → (fit_of t size).location.0 < 65536
      go (yes q) = omega (arith, ap (λ (a : FitAnswer). a.location.0) answer_by_law, refused (table_sound t) (is_size_in_range size) (ltb (widest_extent t) size) (rw answer_by_law at q))
      go (no q) = accepted (fit_accepted (omega arith))

-- Document 02's promise of a sound table and a size in range.
pub fit_found : (t : Table) (size : ℕ) → table_sound t ≡ true → 1 ≤ size → size ≤ 40960 → FitFound t size (fit_of t size)
fit_found t size sound some most = go (ltb (widest_extent t) size) refl
  where
    range : is_size_in_range size ≡ true
    range = one_to_test size 40960 (record { some = some; fits = most })

    shorter : widest_extent t < size → NoneHoldsSize t size
    shorter w e free = omega (arith, widest_most (free_extents t) e ((free_extents_listed t (table_fact t sound).slots).all e free))

    go : (b : Bool) → ltb (widest_extent t) size ≡ b → FitFound t size (fit_of t size)
    go true w =
        let refused : (fit_of t size).refusal ≡ 18 = ap (λ (a : FitAnswer). a.refusal) (fit_too_long t size sound range w) in
        record {
          none = λ h. refused;
          only = λ e. shorter (ltb-true _ _ w);
          accepted = λ n. absurd (n refused);
          place = λ e. absurd (omega arith);
        }
    go false w =
        let answer : fit_of t size ≡ fit_answer 0 (best_fit t size).start = fit_start t size sound range w in
        let held : size ≤ widest_extent t = ltb-false _ _ w in
        let zero : (fit_of t size).refusal ≡ 0 = ap (λ (a : FitAnswer). a.refusal) answer in
        record {
          none = λ h. absurd (omega (arith, widest_less size some (free_extents t) (λ f m. h f ((free_extents_listed t (table_fact t sound).slots).each f m))));
          only = λ e. absurd (omega arith);
          accepted = λ n. zero;
          place = λ e. (best_fit t size, best_place t size sound some held, ap (λ (a : FitAnswer). a.location.0) answer);
        }

-- ---- a partition of that size, at the answer

-- a partition at the start of a free extent, and no longer than it, is inside the memory and meets no other
module _ (t : Table) (sound : SlotsSound t) (e : Extent) (free : IsFreeExtent t e) (p : Partition) (from : p.base.0 ≡ e.start) (to : partition_end p ≤ e.end) (some : p.base.0 < partition_end p) where
  inside_memory : partition_end p ≤ t.size
  inside_memory = omega (arith, (free.all (e.end - 1) (omega (arith, free.some)) (omega (arith, free.some))).0)

  apart_from_each : (j : ℕ) → j < 8 → Apart (slot_at t j).partition p
  apart_from_each j q =
      ⊎_elim
      (λ u. apart_below (slot_at t j).partition p (omega arith))
      (λ u. apart_behind (slot_at t j).partition p (omega arith))
      (extent_apart t e free sound j q)

module _ (t : Table) (size : ℕ) (accepted : (fit_of t size).refusal ≡ 0) where
  fit_taken : FitAccepted t size
  fit_taken = fit_accepted t size accepted

  pub fit_sound : table_sound t ≡ true
  fit_sound = fit_taken.sound

  module _ (p : Partition) (start : p.base.0 ≡ (fit_of t size).location.0) (same : layout_size p.layout ≡ size) where
    from_start : p.base.0 ≡ (best_fit t size).start
    from_start = start ∙ fit_taken.start

    to_end : partition_end p ≤ (best_fit t size).end
    to_end = omega (arith, from_start, fit_taken.place.holds, fit_taken.place.free.some, same)

    some_bytes : p.base.0 < partition_end p
    some_bytes = omega (arith, fit_taken.some, same)

    pub fit_inside : partition_end p ≤ t.size
    fit_inside = inside_memory t (table_fact t fit_sound).slots (best_fit t size) fit_taken.place.free p from_start to_end some_bytes

    pub fit_clear : (k : ℕ) → is_clear_of_others t k p ≡ true
    fit_clear k =
        clear_test t k p (λ j q ne. apart_from_each t (table_fact t fit_sound).slots (best_fit t size) fit_taken.place.free p from_start to_end some_bytes j q)
