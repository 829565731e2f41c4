-- Laws that the checker has shown: a sound layout as facts with names, and back; the size of the largest partition.
use Rattle.std.specs.Prelude.{true, ◌≡◌, ◌≤◌}
use Rattle.std.proofs.Common.{arith, leb-true, le-leb}
use Rattle.common.specs.Layout.{layout_size, layout_sound}
use Rattle.common.specs.TestLaws.{OneTo, one_to_fact, one_to_test, all_fact, all_test}
use Rattle.common.specs.declared.layout.Layout.{Layout}

pub record LayoutSound (l : Layout) : Type 0 where
  pub window : OneTo l.window 32768
  pub input : OneTo l.input 4096
  pub output : OneTo l.output 4096
  pub locked : l.locked ≤ l.window

pub layout_fact : (l : Layout) → layout_sound l ≡ true → LayoutSound l
unfolding layout_sound
layout_fact l h =
    let (window, (input, (output, (locked, _)))) = all_fact _ h in
    record { window = one_to_fact _ 32768 window; input = one_to_fact _ 4096 input; output = one_to_fact _ 4096 output; locked = leb-true _ _ locked }

pub layout_test : (l : Layout) → LayoutSound l → layout_sound l ≡ true
unfolding layout_sound
layout_test l f =
    all_test _ (one_to_test _ 32768 f.window, (one_to_test _ 4096 f.input, (one_to_test _ 4096 f.output, (le-leb _ _ f.locked, tt))))

-- a window of 32,768 bytes and two capacities of 4,096
pub layout_most : (l : Layout) → LayoutSound l → OneTo (layout_size l) 40960
layout_most l f =
    record {
      some = omega (arith, f.window.some);
      fits = omega (arith, f.window.fits, f.input.fits, f.output.fits);
    }
