-- Definitions that must be believed: addresses of 15 bits in pages of 8,192, and reading through them
-- (document 01, "The machine"; manual, "Memory Organization" and "Addressing Modes").
use Rattle.std.specs.Prelude.{ℕ, ◌+◌, ◌-◌, ◌*◌, ◌/◌, ◌%◌, List, length, ℤ, pos, negsuc, ◌==◌, nat_lt, slice_index, Option, Some, None}
use Rattle.common.specs.Choice.{when◌then◌else◌}
use Rattle.common.specs.declared.places.Address.{Address}

-- k further, within the page
abbrev pub add_in_page : Address → ℕ → Address
add_in_page a k = record { 0 = a.0 / 8192 * 8192 + (a.0 % 8192 + k) % 8192 }

-- k further, modulo 32,768
abbrev pub add_wrapping : Address → ℕ → Address
add_wrapping a k = record { 0 = (a.0 + k) % 32768 }

-- the window's byte at an address; from the window's size on there is none
unfoldable pub fetch_of : List ℕ → Address → Option ℕ
fetch_of window a = when nat_lt a.0 (length window) then Some (slice_index window a.0) else None

-- what follows if there is a byte, or an address, and what if there is none
unfoldable pub if_fetched : {A : Type 0} → Option ℕ → A → (ℕ → A) → A
if_fetched (Some b) stop go = go b
if_fetched None stop go = stop

unfoldable pub if_resolved : {A : Type 0} → Option Address → A → (Address → A) → A
if_resolved (Some a) stop go = go a
if_resolved None stop go = stop

-- fifteen bits of two bytes, high first: the top bit is ignored
abbrev pub address_of : ℕ → ℕ → Address
address_of high low = record { 0 = (high * 256 + low) % 32768 }

-- a pointer is two bytes, the second within the first one's page
unfoldable pub pointer_of : List ℕ → Address → Option Address
pointer_of window a =
    if_fetched (fetch_of window a) None (λ high.
    if_fetched (fetch_of window (add_in_page a 1)) None (λ low.
    Some (address_of high low)))

-- the address itself, or where the pointer there leads if the indirect bit is 1
unfoldable pub resolve_of : List ℕ → ℕ → Address → Option Address
resolve_of window indirect a = when indirect == 0 then Some a else pointer_of window a

-- the low seven bits of a relative byte as a signed displacement, -64 to 63
unfoldable pub displacement_of : ℕ → ℤ
displacement_of b = when nat_lt (b % 128) 64 then pos (b % 128) else negsuc (127 - b % 128)

-- a displacement added, modulo 8,192 in the page
unfoldable pub displaced_of : Address → ℤ → Address
displaced_of a (pos d) = add_in_page a d
displaced_of a (negsuc d) = add_in_page a (8191 - d)

-- the address that a relative byte names, from the next instruction
unfoldable pub relative_of : Address → ℕ → Address
relative_of next b = displaced_of next (displacement_of b)
