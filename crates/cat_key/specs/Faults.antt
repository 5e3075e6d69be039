-- What is told of a text that is no name.
use Rattle.std.specs.Prelude.{ℕ, ◌*◌, ◌/◌, ◌%◌, List, [], ◌∷◌, ◌++◌, codes, false}
use Rattle.std.specs.Fmt.{decimal, digit_glyph}
use Rattle.cat_key.specs.declared.NameFault.{NameFault}
use Rattle.cat_key.specs.declared.NameFault.TheVariants.{Empty, Long, Byte}
use Rattle.cat_key.specs.declared.TheConstants.{WORDS}

-- a byte as two hexadecimal digits
abbrev pub two_digits : ℕ → List ℕ
two_digits byte = digit_glyph false (byte / 16) ∷ digit_glyph false (byte % 16) ∷ []

-- what is told of a byte that no name has, and of where it stands
abbrev pub bad_byte_text : ℕ → ℕ → List ℕ
bad_byte_text at byte = codes "byte " ++ (decimal at ++
    (codes " is 0x" ++ (two_digits byte ++ codes ", which no name has")))

-- what is told of a fault
abbrev pub name_fault_text : NameFault → List ℕ
name_fault_text Empty = codes "a name has at least one byte"
name_fault_text (Long len) = codes "a name has at most " ++
    (decimal (8 * WORDS) ++ (codes " bytes, not " ++ decimal len))
name_fault_text (Byte at byte) = bad_byte_text at byte
