-- Conversions of integers (6.3.1).
use Rattle.std.specs.Prelude.{ℕ, Bool, ◌&&◌, if◌then◌else◌, nat_lt, nat_le, ℤ, pos, negsuc, zero, suc, int_le}
use Rattle.ct_ctype.specs.declared.kinds.IntKind.{IntKind}
use Rattle.ct_ctype.specs.declared.kinds.IntKind.TheVariants.{Bool as Boolean, Char, SignedChar, UnsignedChar, Short, UnsignedShort, Int, UnsignedInt, Long, UnsignedLong, LongLong, UnsignedLongLong}
use Rattle.ct_ctype.specs.Ranges.{least, greatest, is_signed, wrapped}

-- the conversion rank (6.3.1.1p1), from the least on
abbrev pub rank : IntKind → ℕ
rank Boolean = 0
rank Char = 1
rank SignedChar = 1
rank UnsignedChar = 1
rank Short = 2
rank UnsignedShort = 2
rank Int = 3
rank UnsignedInt = 3
rank Long = 4
rank UnsignedLong = 4
rank LongLong = 5
rank UnsignedLongLong = 5

-- the first kind holds each number of the second
abbrev pub holds_all : IntKind → IntKind → Bool
holds_all wide kind = int_le (least wide) (least kind) && int_le (greatest kind) (greatest wide)

-- the integer promotions (6.3.1.1p2)
abbrev pub promoted : IntKind → IntKind
promoted kind = if nat_le (rank kind) (rank Int) then (if holds_all Int kind then Int else UnsignedInt) else kind

-- the unsigned kind that corresponds to a signed one (6.2.5p6), and of an unsigned one itself
abbrev pub unsigned_of : IntKind → IntKind
unsigned_of Boolean = Boolean
unsigned_of Char = UnsignedChar
unsigned_of SignedChar = UnsignedChar
unsigned_of UnsignedChar = UnsignedChar
unsigned_of Short = UnsignedShort
unsigned_of UnsignedShort = UnsignedShort
unsigned_of Int = UnsignedInt
unsigned_of UnsignedInt = UnsignedInt
unsigned_of Long = UnsignedLong
unsigned_of UnsignedLong = UnsignedLong
unsigned_of LongLong = UnsignedLongLong
unsigned_of UnsignedLongLong = UnsignedLongLong

-- of a signed and an unsigned kind: the unsigned one, where its rank is not the lower; else the signed one, where it
-- holds each number of the other; else the unsigned kind that corresponds to it
abbrev pub balanced_signs : IntKind → IntKind → IntKind
balanced_signs signed unsigned =
    if nat_le (rank signed) (rank unsigned) then unsigned else (if holds_all signed unsigned then signed else unsigned_of signed)

-- of two promoted kinds: that of the greater rank, where both are signed or both unsigned
abbrev pub balanced : IntKind → IntKind → IntKind
balanced first second =
    if is_signed first
    then (if is_signed second then (if nat_lt (rank first) (rank second) then second else first) else balanced_signs first second)
    else (if is_signed second then balanced_signs second first else (if nat_lt (rank first) (rank second) then second else first))

-- the usual arithmetic conversions (6.3.1.8p1)
abbrev pub common_kind : IntKind → IntKind → IntKind
common_kind first second = balanced (promoted first) (promoted second)

-- 0 for 0, and 1 for every other number
abbrev pub truth_of : ℤ → ℤ
truth_of (pos zero) = pos 0
truth_of (pos (suc n)) = pos 1
truth_of (negsuc n) = pos 1

-- to `_Bool` by 6.3.1.2, to another kind by 6.3.1.3: a number in its range stays, an unsigned kind takes any other one
-- modulo 2 ^ width, and a signed kind keeps its low bits, which is the target's choice (6.3.1.3p3)
abbrev pub converted : ℤ → IntKind → ℤ
converted number Boolean = truth_of number
converted number kind = wrapped kind number
