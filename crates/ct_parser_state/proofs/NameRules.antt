-- What the functions' proofs use.
use Rattle.std.proofs.Common.{◌≡◌, ℕ, Bool, true, false, cond, List, [], ◌∷◌, ◌++◌, Option, Some, None, reverse, map, refl, sym, ap, subst, ◌∙◌, arith}
use Rattle.std.specs.Prelude.{is_some, IsSome}
use Rattle.std.proofs.lemmas.List.{reverse-append}
use Rattle.std.proofs.lemmas.Bool.{false≢true}
use Rattle.std.proofs.lemmas.Slice.Eq.{bytes_eq-Decides}
use Rattle.std.specs.Str.{bytes_eq}
use Rattle.std.specs.Bool.{nat_eq}
use Rattle.std.specs.Cmp.Lexicographic.{pointwise}
use Rattle.std.specs.Map.{lookup, set_value}
use Rattle.std.specs.Option.{option_flatten}
use Rattle.std.specs.declared.vec.Vec.{Vec}
use Rattle.std.specs.declared.alloc.Global.{Global}
use Rattle.indexmap.specs.IndexMap.{insert_entry}
use Rattle.ct_syntax.specs.Words.{Text}
use Rattle.ct_parser_state.specs.declared.entries.Entry.{Entry}
use Rattle.ct_parser_state.specs.declared.entries.Entry.TheVariants as e
use Rattle.ct_parser_state.specs.declared.names.Hiding.{Hiding}
use Rattle.ct_parser_state.specs.Names.{meaning, outside, is_key}
use Rattle.ct_parser_state.specs.Table.{entries_of, latest_first, Hides, EachHides, held, HasMeanings, IsTable}

abbrev pub Row : Type 0
Row = Vec ℕ Global × Option Bool

pub reverse_last : {A : Type 0} (xs : List A) (x : A) → reverse (xs ++ x ∷ []) ≡ x ∷ reverse xs
reverse_last xs x = reverse-append xs (x ∷ [])

-- ---- equal texts

same_text : (a b : Text) → bytes_eq a b ≡ true → a ≡ b
same_text a b h = (bytes_eq-Decides a b).0 h

same_self : (a : Text) → bytes_eq a a ≡ true
same_self a = (bytes_eq-Decides a a).1 refl

flipped : (a b : Text) → bytes_eq a b ≡ bytes_eq b a
flipped a b = go (bytes_eq a b) (bytes_eq b a) refl refl
  where
    go : (x y : Bool) → bytes_eq a b ≡ x → bytes_eq b a ≡ y → x ≡ y
    go true true p q = refl
    go false false p q = refl
    go true false p q = absurd (false≢true (sym q ∙ ap (bytes_eq b) (same_text a b p) ∙ same_self b))
    go false true p q = absurd (false≢true (sym p ∙ ap (bytes_eq a) (same_text b a q) ∙ same_self a))

-- ---- the table, after a name is set or put

pub set_none : (name : Text) (rows : List Row) (w : Option Bool) → lookup (is_key name) rows ≡ None → rows ≡ set_value (is_key name) rows w
set_none name [] w h = refl
set_none name (r ∷ rows) w h = let rest = set_none name rows w in grind (arith, rest)

set_here : (name : Text) (rows : List Row) (w : Option Bool) → IsSome (lookup (is_key name) rows) → lookup (is_key name) (set_value (is_key name) rows w) ≡ Some w
set_here name [] w h = absurd cc
set_here name (r ∷ rows) w h = let rest = set_here name rows w in grind (arith, rest)

set_apart : (name text : Text) (rows : List Row) (w : Option Bool) → bytes_eq name text ≡ false → lookup (is_key text) (set_value (is_key name) rows w) ≡ lookup (is_key text) rows
set_apart name text [] w apart = refl
set_apart name text (r ∷ rows) w apart =
    let rest = set_apart name text rows w apart in
    let here = same_text name r.0.items in
    let there = flipped text r.0.items in
    let turned = flipped text name in
    grind (arith, rest, here, there, turned)

abbrev keys_equal : Vec ℕ Global → Vec ℕ Global → Bool
keys_equal a b = pointwise nat_eq a.items b.items

put : (key : Vec ℕ Global) (v : Option Bool) (rows : List Row) (text : Text) → lookup (is_key text) (insert_entry keys_equal rows key v) ≡ cond (bytes_eq key.items text) (Some v) (lookup (is_key text) rows)
put key v [] text = ap (λ c. cond c (Some v) None) (flipped text key.items)
put key v (r ∷ rows) text =
    let rest = put key v rows text in
    let here = same_text key.items r.0.items in
    let there = flipped text r.0.items in
    let turned = flipped text key.items in
    let self = same_text text r.0.items in
    grind (arith, rest, here, there, turned, self)

-- ---- what names mean

-- a name comes in
pub declared : (rows new : List Hiding) (table after : List Row) (key : Vec ℕ Global) (name : Text) (is_type : Bool) (hidden : Option Bool)
    → key.items ≡ name → hidden ≡ meaning (latest_first rows) name → IsTable rows table
    → new ≡ rows ++ record { entry = e.Name name is_type; hidden = hidden } ∷ [] → after ≡ insert_entry keys_equal table key (Some is_type) → IsTable new after
declared rows new table after key name is_type hidden key_is hidden_is t new_is after_is =
    let row : Hiding = record { entry = e.Name name is_type; hidden = hidden } in
    let turned : reverse new ≡ row ∷ reverse rows = ap reverse new_is ∙ reverse_last rows row in
    record {
      hides = subst EachHides (sym turned) (hidden_is, t.hides);
      has = λ text.
          ap (λ z. held z text) after_is ∙ ap option_flatten (put key (Some is_type) table text)
          ∙ ap (λ z. option_flatten (cond (bytes_eq z text) (Some (Some is_type)) (lookup (is_key text) table))) key_is
          ∙ flat (bytes_eq name text) is_type (lookup (is_key text) table)
          ∙ ap (cond (bytes_eq name text) (Some is_type)) (t.has text)
          ∙ ap (λ z. meaning (entries_of z) text) (sym turned);
    }
  where
    flat : (b is_type : Bool) (o : Option (Option Bool)) → option_flatten (cond b (Some (Some is_type)) o) ≡ cond b (Some is_type) (option_flatten o)
    flat true is_type o = refl
    flat false is_type o = refl

-- a scope is found
pub left_scope : (rows rest : List Hiding) (table : List Row) (row : Hiding) → IsTable rows table → rows ≡ rest ++ row ∷ [] → row.entry ≡ e.Scope → IsTable rest table
left_scope rows rest table row t rows_is scope =
    let turned : reverse rows ≡ row ∷ reverse rest = ap reverse rows_is ∙ reverse_last rest row in
    record {
      hides = (subst EachHides turned t.hides).1;
      has = λ text. t.has text ∙ ap (λ z. meaning (entries_of z) text) turned ∙ ap (λ z. meaning (z ∷ latest_first rest) text) scope;
    }

-- the names outside the scope are those outside it after one of its names
pub still_outside : (rows rest : List Hiding) (row : Hiding) (name : Text) (is_type : Bool) → rows ≡ rest ++ row ∷ [] → row.entry ≡ e.Name name is_type → outside (latest_first rest) ≡ outside (latest_first rows)
still_outside rows rest row name is_type rows_is name_is =
    sym (ap (λ (rs : List Hiding). outside (latest_first rs)) rows_is ∙ ap (λ (rs : List Hiding). outside (entries_of rs)) (reverse_last rest row) ∙ ap (λ z. outside (z ∷ latest_first rest)) name_is)

-- a name goes out
pub left_name : (rows rest : List Hiding) (table after : List Row) (row : Hiding) (name : Text) (is_type : Bool)
    → IsTable rows table → rows ≡ rest ++ row ∷ [] → row.entry ≡ e.Name name is_type → after ≡ set_value (is_key name) table row.hidden → IsTable rest after
left_name rows rest table after row name is_type t rows_is name_is after_is =
    let turned : reverse rows ≡ row ∷ reverse rest = ap reverse rows_is ∙ reverse_last rest row in
    let here : (text : Text) → held table text ≡ meaning (e.Name name is_type ∷ latest_first rest) text
    = λ text. t.has text ∙ ap (λ z. meaning (entries_of z) text) turned ∙ ap (λ z. meaning (z ∷ latest_first rest) text) name_is in
    let hides : Hides row.entry row.hidden (latest_first rest) × EachHides (reverse rest) = subst EachHides turned t.hides in
    let hidden : row.hidden ≡ meaning (latest_first rest) name = subst (λ z. Hides z row.hidden (latest_first rest)) name_is hides.0 in
    record {
      hides = hides.1;
      has = λ text. ap (λ z. held z text) after_is ∙ go text here hidden (bytes_eq name text) refl;
    }
  where
    found : (o : Option (Option Bool)) (b : Bool) → option_flatten o ≡ Some b → IsSome o
    found None b h = absurd cc
    found (Some o) b h = refl

    go : (text : Text) → ((text : Text) → held table text ≡ meaning (e.Name name is_type ∷ latest_first rest) text) → row.hidden ≡ meaning (latest_first rest) name
        → (b : Bool) → bytes_eq name text ≡ b → held (set_value (is_key name) table row.hidden) text ≡ meaning (latest_first rest) text
    go text here hidden true p =
        let there : held table name ≡ Some is_type = here name ∙ ap (λ c. cond c (Some is_type) (meaning (latest_first rest) name)) (same_self name) in
        let set : lookup (is_key name) (set_value (is_key name) table row.hidden) ≡ Some row.hidden = set_here name table row.hidden (found (lookup (is_key name) table) is_type there) in
        subst (λ z. held (set_value (is_key name) table row.hidden) z ≡ meaning (latest_first rest) z) (same_text name text p) (ap option_flatten set ∙ hidden)
    go text here hidden false p =
        ap option_flatten (set_apart name text table row.hidden p) ∙ here text ∙ ap (λ c. cond c (Some is_type) (meaning (latest_first rest) text)) p
