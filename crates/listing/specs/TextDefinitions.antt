-- Names for lists of definitions: `unfolding text_definitions` opens all that the text of the bench run is made of. Nothing here
-- has to be believed.
use Rattle.listing.specs.Text.{decimal_digits, field, fields, hex_byte, hex_digit, hex_u16, lines_of, output_line, refused_line, report_line}

-- digits, fields and lines
unfoldable pub text_definitions : Type 0
unfolding hex_digit hex_byte hex_u16 decimal_digits field fields refused_line report_line output_line lines_of
text_definitions = Unit {0}
