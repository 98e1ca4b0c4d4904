-- The table of macros, seen as the list of its values.
use Rattle.std.proofs.Common.{◌≡◌, ℕ, ◌+◌, Bool, true, false, cond, List, [], ◌∷◌, ◌++◌, Some, None, refl, sym, ap, ◌∙◌, subst, arith}
use Rattle.std.specs.Prelude.{position, nat_eq}
use Rattle.std.specs.List.{list_any, position_or_len}
use Rattle.std.specs.Map.{lookup, remove_entry, values_of, keys_of}
use Rattle.std.specs.Str.{bytes_eq}
use Rattle.std.specs.Cmp.Lexicographic.{pointwise}
use Rattle.std.specs.declared.vec.Vec.{Vec}
use Rattle.std.specs.declared.alloc.Global.{Global}
use Rattle.std.proofs.lemmas.Slice.Eq.{bytes_eq-Decides}
use Rattle.std.proofs.lemmas.Bool.{false≢true}
use Rattle.indexmap.specs.IndexMap.{insert_entry}
use Rattle.ct_macro_call.specs.declared.definition.Macro.{Macro}
use Rattle.ct_macro_call.specs.Definition.{is_named, macro_named, without}
use Rattle.ct_macro.specs.Expansion.{placed_macro}
use Rattle.ct_macro.specs.Table.{IsTable}

abbrev pub Entry : Type 0
Entry = Vec ℕ Global × Macro

-- whether a key is a name
abbrev pub at : List ℕ → Vec ℕ Global → Bool
at name key = pointwise nat_eq name key.items

at_name : (name : List ℕ) (e : Entry) → e.0.items ≡ e.1.name → at name e.0 ≡ is_named name e.1
at_name name e h = ap (bytes_eq name) h

pub found : (name : List ℕ) (es : List Entry) → IsTable es → lookup (at name) es ≡ macro_named name (values_of es)
found name [] t = refl
found name (e ∷ es) t = rw (at_name name e t.0, found name es t.2)

-- equal texts
pub same_text : (a b : List ℕ) → bytes_eq a b ≡ true → a ≡ b
same_text a b h = (bytes_eq-Decides a b).0 h

pub same_self : (a : List ℕ) → bytes_eq a a ≡ true
same_self a = (bytes_eq-Decides a a).1 refl

other_text : (a b : List ℕ) → bytes_eq a b ≡ false → bytes_eq b a ≡ false
other_text a b h = go (bytes_eq b a) refl
  where
    go : (r : Bool) → bytes_eq b a ≡ r → bytes_eq b a ≡ false
    go false e = e
    go true e = absurd (false≢true (sym h ∙ subst (λ (x : List ℕ). bytes_eq a x ≡ true) (sym (same_text b a e)) (same_self a)))

-- ---- a definition is taken away

-- no name of the list is this one
abbrev IsAbsent : List ℕ → List Entry → Type 0
IsAbsent name es = list_any (λ other. is_named name other.1) es ≡ false

absent_kept : (name : List ℕ) (es : List Entry) → IsAbsent name es → without name (values_of es) ≡ values_of es
absent_kept name [] h = refl
absent_kept name (e ∷ es) h = grind (arith, absent_kept name es)

pub removed : (name : List ℕ) (es : List Entry) → IsTable es → values_of (remove_entry (at name) es) ≡ without name (values_of es)
removed name [] t = refl
removed name (e ∷ es) t =
    let keys = at_name name e t.0 in
    let ih = removed name es t.2 in
    let kept = absent_kept e.1.name es t.1 in
    let same = same_text name e.1.name in
    grind (arith, keys, ih, kept, same)

absent_after : (name gone : List ℕ) (es : List Entry) → IsAbsent name es → IsAbsent name (remove_entry (at gone) es)
absent_after name gone [] h = refl
absent_after name gone (e ∷ es) h = grind (arith, absent_after name gone es)

pub removed_table : (name : List ℕ) (es : List Entry) → IsTable es → IsTable (remove_entry (at name) es)
removed_table name [] t = tt
removed_table name (e ∷ es) t = kept_or_gone (at name e.0) (removed_table name es t.2)
  where
    kept_or_gone : (here : Bool) → IsTable (remove_entry (at name) es) → IsTable (cond here es (e ∷ remove_entry (at name) es))
    kept_or_gone true rest = t.2
    kept_or_gone false rest = (t.0, absent_after e.1.name name es t.1, rest)

-- ---- a definition comes in

abbrev keys_equal : Vec ℕ Global → Vec ℕ Global → Bool
keys_equal a b = pointwise nat_eq a.items b.items

pub added : (key : Vec ℕ Global) (m : Macro) (es : List Entry) → IsTable es → key.items ≡ m.name → macro_named m.name (values_of es) ≡ None
    → insert_entry keys_equal es key m ≡ es ++ (key, m) ∷ []
added key m [] t k h = refl
added key m (e ∷ es) t k h =
    let named : keys_equal key e.0 ≡ is_named m.name e.1 = ap (λ x. bytes_eq x e.0.items) k ∙ at_name m.name e t.0 in
    let ih = added key m es t.2 k in
    grind (arith, named, ih)

pub added_values : (key : Vec ℕ Global) (m : Macro) (es : List Entry) → values_of (es ++ (key, m) ∷ []) ≡ values_of es ++ m ∷ []
added_values key m [] = refl
added_values key m (e ∷ es) = ap (λ l. e.1 ∷ l) (added_values key m es)

absent_added : (name : List ℕ) (key : Vec ℕ Global) (m : Macro) (es : List Entry) → IsAbsent name es → bytes_eq name m.name ≡ false → IsAbsent name (es ++ (key, m) ∷ [])
absent_added name key m [] h o = rw o
absent_added name key m (e ∷ es) h o = grind (arith, absent_added name key m es)

named_apart : (m : Macro) (e : Entry) (es : List Entry) → macro_named m.name (values_of (e ∷ es)) ≡ None → is_named m.name e.1 ≡ false
named_apart m e es h = grind arith

named_in_rest : (m : Macro) (e : Entry) (es : List Entry) → macro_named m.name (values_of (e ∷ es)) ≡ None → macro_named m.name (values_of es) ≡ None
named_in_rest m e es h = grind arith

pub added_table : (key : Vec ℕ Global) (m : Macro) (es : List Entry) → IsTable es → key.items ≡ m.name → macro_named m.name (values_of es) ≡ None
    → IsTable (es ++ (key, m) ∷ [])
added_table key m [] t k h = (k, refl, tt)
added_table key m (e ∷ es) t k h =
    (t.0, absent_added e.1.name key m es t.1 (other_text m.name e.1.name (named_apart m e es h)), added_table key m es t.2 k (named_in_rest m e es h))

-- ---- the place of a name

-- the macro with its place, from the place of the key and the value there
pub placed_some : (n i : ℕ) (name : List ℕ) (m : Macro) (es : List Entry) → IsTable es
    → position_or_len (at name) (keys_of es) ≡ i → lookup (at name) es ≡ Some m → placed_macro n name (values_of es) ≡ Some (n + i, m)
placed_some n i name m [] t p h = cc
placed_some n i name m (e ∷ es) t p h =
    let keys = at_name name e t.0 in
    let ih = placed_some (n + 1) (position_or_len (at name) (keys_of es)) name m es t.2 refl in
    grind (arith, keys, ih)

pub placed_none : (n : ℕ) (name : List ℕ) (es : List Entry) → IsTable es → lookup (at name) es ≡ None → placed_macro n name (values_of es) ≡ None
placed_none n name [] t h = refl
placed_none n name (e ∷ es) t h =
    let keys = at_name name e t.0 in
    let ih = placed_none (n + 1) name es t.2 in
    grind (arith, keys, ih)

chosen_index : (b : Bool) (x p : ℕ) → Some p ≡ cond b (Some x) None → x ≡ p
chosen_index true x p h = cc
chosen_index false x p h = cc

pub placed : (i : ℕ) (name : List ℕ) (m : Macro) (es : List Entry) → IsTable es → Some i ≡ position (at name) (keys_of es)
    → Some m ≡ lookup (at name) es → placed_macro 0 name (values_of es) ≡ Some (i, m)
placed i name m es t p h =
    let e : 0 + i ≡ i = omega arith in
    placed_some 0 i name m es t (chosen_index _ (position_or_len (at name) (keys_of es)) i p) (sym h) ∙ ap (λ n. Some (n, m)) e
