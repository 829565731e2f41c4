-- Definitions that must be believed: locations in memory, from a partition's addresses (document 01, "Floor and bays").
use Rattle.std.specs.Prelude.{◌+◌}
use Rattle.common.specs.declared.places.Address.{Address}
use Rattle.common.specs.declared.places.Location.{Location}
use Rattle.table.specs.declared.table.Partition.{Partition}

-- the location of a machine address: through the base, and in no other way
abbrev pub location_of : Partition → Address → Location
location_of p a = record { 0 = p.base.0 + a.0 }

-- where the input buffer starts: at the first address outside the window. The output buffer starts behind it
abbrev pub input_location : Partition → Location
input_location p = location_of p (record { 0 = p.layout.window })

abbrev pub output_location : Partition → Location
output_location p = record { 0 = (input_location p).0 + p.layout.input }
