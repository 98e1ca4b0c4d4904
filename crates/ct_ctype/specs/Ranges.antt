-- The target: the kinds of integers, their widths, ranges and bits, and the numbers of bytes that layouts rest on.
use Rattle.std.specs.Prelude.{ℕ, ◌-◌, ◌^◌, Bool, true, false, ◌&&◌, if◌then◌else◌, ℤ, pos, neg_ℤ, ◌-ℤ◌, int_le, ◌≤ℤ◌, unsigned_abs}
use Rattle.std.specs.Int.{int_rem_euclid}
use Rattle.ct_ctype.specs.declared.kinds.IntKind.{IntKind}
use Rattle.ct_ctype.specs.declared.kinds.IntKind.TheVariants.{Bool as Boolean, Char, SignedChar, UnsignedChar, Short, UnsignedShort, Int, UnsignedInt, Long, UnsignedLong, LongLong, UnsignedLongLong}

-- the number of value and sign bits (6.2.6.2p6); a `_Bool` has one
abbrev pub width : IntKind → ℕ
width Boolean = 1
width Char = 8
width SignedChar = 8
width UnsignedChar = 8
width Short = 16
width UnsignedShort = 16
width Int = 32
width UnsignedInt = 32
width Long = 64
width UnsignedLong = 64
width LongLong = 64
width UnsignedLongLong = 64

-- the bytes of a pointer of the target
abbrev pub pointer_bytes : ℕ
pointer_bytes = 8

-- no type of the target aligns at more bytes
abbrev pub largest_alignment : ℕ
largest_alignment = 8

-- 6.2.5p4 and 6.2.5p6; plain `char` is signed (6.2.5p15)
abbrev pub is_signed : IntKind → Bool
is_signed Boolean = false
is_signed Char = true
is_signed SignedChar = true
is_signed UnsignedChar = false
is_signed Short = true
is_signed UnsignedShort = false
is_signed Int = true
is_signed UnsignedInt = false
is_signed Long = true
is_signed UnsignedLong = false
is_signed LongLong = true
is_signed UnsignedLongLong = false

-- the range of a kind, in two's complement (6.2.6.2p1 and 6.2.6.2p2)
abbrev pub least : IntKind → ℤ
least kind = if is_signed kind then neg_ℤ (pos (2 ^ (width kind - 1))) else pos 0

abbrev pub greatest : IntKind → ℤ
greatest kind = pos (if is_signed kind then 2 ^ (width kind - 1) - 1 else 2 ^ width kind - 1)

pub record InRange (kind : IntKind) (number : ℤ) : Type 0 where
  pub low : least kind ≤ℤ number
  pub high : number ≤ℤ greatest kind

abbrev pub is_in_range : IntKind → ℤ → Bool
is_in_range kind number = int_le (least kind) number && int_le number (greatest kind)

-- the low bits of a number in two's complement, as many as the kind has
abbrev pub low_bits : IntKind → ℤ → ℕ
low_bits kind number = unsigned_abs (int_rem_euclid number (pos (2 ^ width kind)))

-- the number that a kind's bits stand for: from half of all on, those of a signed kind are negative
abbrev pub value_of_bits : IntKind → ℕ → ℤ
value_of_bits kind bits = if int_le (pos bits) (greatest kind) then pos bits else pos bits -ℤ pos (2 ^ width kind)

-- the number of the range that differs from this one by a multiple of 2 ^ width
abbrev pub wrapped : IntKind → ℤ → ℤ
wrapped kind number = value_of_bits kind (low_bits kind number)
