-- How a line is read, from the left: what the private functions of the reader give. No public clause speaks of it.
use Rattle.std.specs.Prelude.{ℕ, suc, ◌+◌, ◌==◌, ◌&&◌, ◌||◌, Bool, true, false, List, [], ◌∷◌, ◌++◌, Option, Some, None, map, take, drop, if◌then◌else◌}
use Rattle.ct_yaml.specs.declared.node.Node.{Node}
use Rattle.ct_yaml.specs.declared.node.Node.TheVariants.{Scalar}
use Rattle.ct_yaml.specs.declared.mark.Inline.{Inline}
use Rattle.ct_yaml.specs.declared.mark.Inline.TheVariants as inline
use Rattle.ct_yaml.specs.declared.mark.Mark.{Mark}
use Rattle.ct_yaml.specs.declared.mark.Mark.TheVariants.{Dash, Key, Value}
use Rattle.ct_yaml.specs.Line.{is_rest, is_end, is_gap, is_plain, is_flow_plain, is_flow_mark, has_tab_indent}

-- what is read at the front, and the bytes behind it
abbrev pub Found : Type 0 → Type 0
Found A = Option (A × List ℕ)

abbrev pub then_read : {A B : Type 0} → Option A → (A → Option B) → Option B
then_read None f = None
then_read (Some a) f = f a

abbrev pub mapped : {A B : Type 0} → (A → B) → Option A → Option B
mapped f None = None
mapped f (Some a) = Some (f a)

abbrev pub as_value : {A B : Type 0} → (A → B) → A × List ℕ → B × List ℕ
as_value f found = (f found.0, found.1)

-- with more at the front of what is read
abbrev pub onto : {A : Type 0} → List A → Found (List A) → Found (List A)
onto front found = mapped (as_value (λ rest. front ++ rest)) found

abbrev pub skip : List ℕ → List ℕ
skip [] = []
skip (byte ∷ bytes) = if byte == 32 then skip bytes else byte ∷ bytes

-- ---- scalars

-- behind an opening quote
abbrev mutual
  pub single_at : List ℕ → Found (List ℕ)
  single_at [] = None
  single_at (byte ∷ bytes) = if byte == 39 then quote_at bytes else onto (byte ∷ []) (single_at bytes)

  pub quote_at : List ℕ → Found (List ℕ)
  quote_at [] = Some ([], [])
  quote_at (byte ∷ bytes) = if byte == 39 then onto (39 ∷ []) (single_at bytes) else Some ([], byte ∷ bytes)

abbrev pub meaning_of : ℕ → Option ℕ
meaning_of byte =
    if (byte == 92) || (byte == 34) then Some byte else if byte == 110 then Some 10 else if byte == 116 then Some 9 else None

abbrev pub meant : Option ℕ → Found (List ℕ) → Found (List ℕ)
meant None found = None
meant (Some byte) found = onto (byte ∷ []) found

abbrev mutual
  pub double_at : List ℕ → Found (List ℕ)
  double_at [] = None
  double_at (byte ∷ bytes) =
      if byte == 34 then Some ([], bytes) else if byte == 92 then escape_at bytes else onto (byte ∷ []) (double_at bytes)

  pub escape_at : List ℕ → Found (List ℕ)
  escape_at [] = None
  escape_at (byte ∷ bytes) = meant (meaning_of byte) (double_at bytes)

-- whether a plain scalar ends before these bytes
abbrev pub is_stop : Bool → List ℕ → Bool
is_stop spaced [] = true
is_stop spaced (byte ∷ bytes) = is_rest spaced (byte ∷ bytes) || ((byte == 58) && is_gap bytes)

abbrev pub plain_len : Bool → List ℕ → ℕ
plain_len spaced [] = 0
plain_len spaced (byte ∷ bytes) = if is_stop spaced (byte ∷ bytes) then 0 else suc (plain_len (byte == 32) bytes)

abbrev pub cut : (List ℕ → Bool) → ℕ → List ℕ → Found (List ℕ)
cut is_good n bytes = if is_good (take n bytes) then Some (take n bytes, drop n bytes) else None

-- whether spaces and a comma or a bracket, or nothing, follow
abbrev pub is_flow_stop : List ℕ → Bool
is_flow_stop [] = true
is_flow_stop (byte ∷ bytes) = is_flow_mark byte || ((byte == 32) && is_flow_stop bytes)

abbrev pub flow_len : List ℕ → ℕ
flow_len [] = 0
flow_len (byte ∷ bytes) = if is_flow_stop (byte ∷ bytes) then 0 else suc (flow_len bytes)

abbrev pub scalar_by : (List ℕ → Found (List ℕ)) → List ℕ → Found (List ℕ)
scalar_by plain [] = None
scalar_by plain (byte ∷ bytes) =
    if byte == 39 then single_at bytes else if byte == 34 then double_at bytes else plain (byte ∷ bytes)

unfoldable pub scalar_at : List ℕ → Found (List ℕ)
scalar_at bytes = scalar_by (λ all. cut is_plain (plain_len false all) all) bytes

unfoldable pub flow_scalar_at : List ℕ → Found (List ℕ)
flow_scalar_at bytes = scalar_by (λ all. cut is_flow_plain (flow_len all) all) bytes

-- ---- values

-- behind a scalar of a flow list: whether it was the last, and what follows
abbrev pub element_end : List ℕ → List ℕ → Option (List ℕ × Bool × List ℕ)
element_end text [] = None
element_end text (byte ∷ bytes) =
    if byte == 93 then Some (text, true, bytes) else if byte == 44 then Some (text, false, bytes) else None

unfoldable pub element_at : List ℕ → Option (List ℕ × Bool × List ℕ)
element_at bytes = then_read (flow_scalar_at (skip bytes)) (λ found. element_end found.0 (skip found.1))

abbrev pub elements_on : (List ℕ → Found (List (List ℕ))) → List ℕ × Bool × List ℕ → Found (List (List ℕ))
elements_on more found = if found.1 then Some (found.0 ∷ [], found.2) else onto (found.0 ∷ []) (more found.2)

-- The scalars of a flow list behind its opening bracket or a comma; the first list is as long as what is left.
abbrev pub elements_at : List ℕ → List ℕ → Found (List (List ℕ))
elements_at [] bytes = None
elements_at (_ ∷ fuel) bytes = then_read (element_at bytes) (elements_on (elements_at fuel))

abbrev pub flow_from : List ℕ → List ℕ → Found (List (List ℕ))
flow_from all [] = None
flow_from all (byte ∷ bytes) = if byte == 93 then Some ([], bytes) else elements_at all all

unfoldable pub flow_at : List ℕ → Found (List (List ℕ))
flow_at bytes = flow_from bytes (skip bytes)

abbrev pub brace_from : List ℕ → Option (List ℕ)
brace_from [] = None
brace_from (byte ∷ bytes) = if byte == 125 then Some bytes else None

-- the texts as nodes
abbrev pub nodes_of : Found (List (List ℕ)) → Found (List Node)
nodes_of found = mapped (as_value (map Scalar)) found

abbrev pub inline_from : List ℕ → Found Inline
inline_from [] = None
inline_from (byte ∷ bytes) =
    if byte == 91 then mapped (as_value inline.Flow) (nodes_of (flow_at bytes))
    else if byte == 123 then mapped (λ rest. (inline.Braces, rest)) (brace_from (skip bytes))
    else mapped (as_value inline.Scalar) (scalar_at (byte ∷ bytes))

unfoldable pub inline_at : List ℕ → Found Inline
inline_at bytes = inline_from bytes

-- ---- lines

abbrev pub at_most_one : Option Mark → List Mark
at_most_one None = []
at_most_one (Some mark) = mark ∷ []

abbrev pub one_or_two : Mark × Option Mark → List Mark
one_or_two found = found.0 ∷ at_most_one found.1

-- with more marks before them
abbrev pub after_marks : List Mark → Option (List Mark) → Option (List Mark)
after_marks front None = None
after_marks front (Some marks) = Some (front ++ marks)

abbrev pub ended : Inline → List ℕ → Option (List Mark)
ended value rest = if is_end rest then Some (Value value ∷ []) else None

-- a value that ends the line
unfoldable pub value_at : List ℕ → Option (List Mark)
value_at bytes = then_read (inline_at bytes) (λ found. ended found.0 found.1)

-- behind a key's colon
unfoldable pub key_rest : List ℕ → Option (List Mark)
key_rest bytes = if is_end bytes then Some [] else value_at (skip bytes)

-- behind a scalar at a column: a colon makes it a key
abbrev pub behind_scalar : ℕ → List ℕ → List ℕ → Option (List Mark)
behind_scalar column text [] = Some (Value (inline.Scalar text) ∷ [])
behind_scalar column text (byte ∷ bytes) =
    if (byte == 58) && is_gap bytes then mapped (λ marks. Key column text ∷ marks) (key_rest bytes)
    else ended (inline.Scalar text) (byte ∷ bytes)

abbrev pub last_from : ℕ → List ℕ → Option (List Mark)
last_from column [] = None
last_from column (byte ∷ bytes) =
    if (byte == 91) || (byte == 123) then value_at (byte ∷ bytes)
    else then_read (scalar_at (byte ∷ bytes)) (λ found. behind_scalar column found.0 found.1)

-- a value or an entry that begins here
unfoldable pub last_at : ℕ → List ℕ → Option (List Mark)
last_at column bytes = last_from column bytes

abbrev pub line_from : Bool → ℕ → List ℕ → Option (List Mark)
line_from spaced column [] = Some []
line_from spaced column (byte ∷ bytes) =
    if byte == 32 then line_from true (column + 1) bytes
    else if is_rest spaced (byte ∷ bytes) then Some []
    else if (byte == 45) && is_gap bytes then mapped (λ marks. Dash column ∷ marks) (line_from false (column + 1) bytes)
    else last_at column (byte ∷ bytes)

abbrev pub is_opened : List Mark → Bool
is_opened [] = true
is_opened (Value value ∷ marks) = false
is_opened (_ ∷ marks) = true

abbrev pub opened_only : List Mark → Option (List Mark)
opened_only marks = if is_opened marks then Some marks else None

unfoldable pub line_marks : List ℕ → Option (List Mark)
line_marks line = if has_tab_indent line then None else then_read (line_from false 0 line) opened_only
