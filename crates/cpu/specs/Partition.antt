-- What private code is held to: the parts of a partition by their bounds, as a run reads and writes them. Nothing here has to
-- be believed: the contracts of the public functions do not mention it.
use Rattle.std.specs.Prelude.{◌≡◌, ℕ, ◌+◌, ◌-◌, ◌%◌, ◌<◌, ◌≤◌, min, List, take, drop, nat_le, nat_lt, slice_index, slice_set}
use Rattle.common.specs.Choice.{when◌then◌else◌}
use Rattle.common.specs.declared.layout.Layout.{Layout}
use Rattle.cpu.specs.Machine.{Machine}
use Rattle.registers.specs.State.{with_cpu, with_status, with_filled, with_read, with_written}
use Rattle.registers.specs.declared.state.State.{State}
use Rattle.cpu.specs.declared.partition.Bounds.{Bounds}
use Rattle.cpu.specs.declared.partition.Positions.{Positions}
use Rattle.cpu.specs.Port.{Ports}
use Rattle.cpu.specs.PortView.{ports_of_view}
use Rattle.steps.specs.declared.result.PackedEffect.{PackedEffect}
use Rattle.steps.specs.declared.result.PackedEffect.TheVariants.{Nothing, Store, Take, Put}
use Rattle.registers.specs.declared.cpu.Cpu.{Cpu}

-- where the parts of n bytes start by their layout, and where they end, cut at n
unfoldable pub bounds_of : Layout → ℕ → ℕ → Bounds
bounds_of z filled n =
    record {
      window_end = min z.window n;
      input_start = z.window;
      input_end = min (z.window + z.input) n;
      output_start = z.window + z.input;
      output_end = min (z.window + z.input + z.output) n;
      end = z.window + z.input + z.output;
      locked = z.locked;
      filled = filled;
    }

-- what every answer of bounds_of is
pub record BoundsHold (b : Bounds) (n : ℕ) : Type 0 where
  pub window_end : b.window_end ≡ min b.input_start n
  pub input_end : b.input_end ≡ min b.output_start n
  pub output_end : b.output_end ≡ min b.end n
  pub input_start : b.input_start < 65536
  pub output_start : b.input_start ≤ b.output_start
  pub input_size : b.output_start < b.input_start + 65536
  pub end : b.output_start ≤ b.end
  pub output_size : b.end < b.output_start + 65536
  pub filled : b.filled < 65536

-- what a step asks of the bounds: the parts end inside n bytes, and start at numbers of their size
pub record BoundsInside (b : Bounds) (n : ℕ) : Type 0 where
  pub window_end : b.window_end ≤ n
  pub input_end : b.input_end ≤ n
  pub output_end : b.output_end ≤ n
  pub input_start : b.input_start < 65536
  pub output_start : b.output_start < 131072
  pub output_size : b.output_end < b.output_start + 65536
  pub filled : b.filled < 65536

-- and of the positions: they fit the state that keeps them
pub record PositionsFit (k : Positions) : Type 0 where
  pub read : k.read < 65536
  pub written : k.written < 65536

-- the machine in the bytes, by the bounds: what a run does not touch is as in the state that it was given
unfoldable pub machine_by_bounds : State → Bounds → Cpu → ℕ → Positions → List ℕ → Machine
machine_by_bounds given b cpu status k l =
    record {
      state = with_written k.written (with_read k.read (with_filled b.filled (with_status status (with_cpu cpu given))));
      locked = b.locked;
      window = take b.input_start l;
      input = take (b.output_start - b.input_start) (drop b.input_start l);
      output = take (b.end - b.output_start) (drop b.output_start l);
    }

-- what a step may see of the buffers, by the bounds
unfoldable pub port_view_of : Bounds → Positions → List ℕ → Ports
port_view_of b k l =
    record {
      unread = nat_lt k.read b.filled;
      byte = slice_index (take b.input_end l) (b.input_start + k.read);
      full = nat_le b.output_end (b.output_start + k.written);
    }

-- positions and bytes after an effect
pub record PartitionAfter : Type 0 where
  pub positions : Positions
  pub bytes : List ℕ

abbrev pub partition_after : Positions → List ℕ → PartitionAfter
partition_after k l = record { positions = k; bytes = l }

unfoldable pub apply_effect_of : PackedEffect → Bounds → Positions → List ℕ → PartitionAfter
apply_effect_of Nothing b k l = partition_after k l
apply_effect_of (Store a v) b k l = when nat_lt a b.window_end then partition_after k (slice_set l a (v % 256)) else partition_after k l
apply_effect_of Take b k l =
    when nat_lt k.read b.filled then partition_after (record { read = k.read + 1; written = k.written }) l else partition_after k l
apply_effect_of (Put v) b k l =
    when nat_lt (b.output_start + k.written) b.output_end
    then partition_after (record { read = k.read; written = k.written + 1 }) (slice_set l (b.output_start + k.written) (v % 256))
    else partition_after k l

-- a name for a list of definitions: what a run reads and writes by the bounds
unfoldable pub partition_definitions : Type 0
unfolding when◌then◌else◌ bounds_of port_view_of apply_effect_of ports_of_view
partition_definitions = Unit {0}
