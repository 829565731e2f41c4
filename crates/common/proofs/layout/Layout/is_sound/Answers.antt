-- `common::layout::Layout::is_sound`: each test is the one that the definition makes.
use Rattle.common.specs.Layout.{layout_sound}
use Rattle.common.specs.Tests.{and_all}
use Rattle.common.proofs.layout.Layout.is_sound.Goals as goal

pub returns : goal.returns
unfolding layout_sound and_all
returns c = rw (c.is_one_to.ensures, c.is_one_to-2.ensures, c.is_one_to-3.ensures)
