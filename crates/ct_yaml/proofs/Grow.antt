-- A layout with one mark more. The mark goes down along the last values, and each fact of the layout grows with it.
use Rattle.std.proofs.Common.{◌≡◌, ℕ, ◌+◌, Bool, true, false, cond, eqb, max, List, [], ◌∷◌, ◌++◌, length, Option, Some, None, refl, sym, ap, ◌∙◌, append_assoc, arith}
use Rattle.std.specs.Option.{IfSome}
use Rattle.std.proofs.lemmas.Option.{IfSome_then}
use Rattle.std.proofs.lemmas.Bool.{cond_both, eqb-true, ltb-true, leb-true}
use Rattle.ct_yaml.specs.declared.node.Node.{Node}
use Rattle.ct_yaml.specs.declared.node.Node.TheVariants.{List as Listed, Map}
use Rattle.ct_yaml.specs.declared.mark.Inline.{Inline}
use Rattle.ct_yaml.specs.declared.node.Entry.{Entry}
use Rattle.ct_yaml.specs.declared.mark.Mark.{Mark}
use Rattle.ct_yaml.specs.declared.mark.Mark.TheVariants.{Dash, Key, Value}
use Rattle.ct_yaml.specs.declared.stack.Block.{Block}
use Rattle.ct_yaml.specs.declared.stack.Block.TheVariants as block
use Rattle.ct_yaml.specs.Block.{Layout, nothing, on_line, map_at, list_at, Entries, no_entry, entry, Elements, no_item, item, marks_of, entry_marks, item_marks, IsUnderKey, IsUnderDash, IsIndented, node_of, entries_of, items_of, entry_of, depth_of}
use Rattle.ct_yaml.specs.Reading.{mapped}
use Rattle.ct_yaml.specs.Stack.{Open, is_inside, begun, next_in, within, put, closed, value_depth}

-- ---- what is open in a layout

abbrev pub spine : Layout → List Block
spine nothing = []
spine (on_line value) = []
spine (map_at column before key value) = block.Map column (entries_of before) key ∷ spine value
spine (list_at column before value) = block.List column (items_of before) ∷ spine value

abbrev pub tip : Layout → Option Inline
tip nothing = None
tip (on_line value) = Some value
tip (map_at column before key value) = tip value
tip (list_at column before value) = tip value

abbrev pub open_of : Layout → Open
open_of layout = (spine layout, tip layout)

abbrev pub open_depth : Layout → ℕ
open_depth layout = length (spine layout) + value_depth (tip layout)

pub closed_spine : (l : Layout) → closed (spine l) (tip l) ≡ node_of l
closed_spine nothing = refl
closed_spine (on_line value) = refl
closed_spine (map_at column before key value) = ap (λ v. Map (entries_of before ++ entry_of key v ∷ [])) (closed_spine value)
closed_spine (list_at column before value) = ap (λ v. Listed (items_of before ++ v ∷ [])) (closed_spine value)

-- ---- one mark more

abbrev pub begun_at : Mark → Option Layout
begun_at (Key column key) = Some (map_at column no_entry key nothing)
begun_at (Dash column) = Some (list_at column no_item nothing)
begun_at (Value value) = Some (on_line value)

abbrev pub next_map : Mark → ℕ → Entries → List ℕ → Layout → Option Layout
next_map (Key column key) at before last value = cond (eqb at column) (Some (map_at at (entry before last value) key nothing)) None
next_map _ at before last value = None

abbrev pub next_list : Mark → ℕ → Elements → Layout → Option Layout
next_list (Dash column) at before value = cond (eqb at column) (Some (list_at at (item before value) nothing)) None
next_list _ at before value = None

abbrev pub add : Mark → Layout → Option Layout
add mark nothing = begun_at mark
add mark (on_line value) = None
add mark (map_at at before last value) =
    cond (is_inside mark (block.Map at (entries_of before) last)) (mapped (map_at at before last) (add mark value)) (next_map mark at before last value)
add mark (list_at at before value) =
    cond (is_inside mark (block.List at (items_of before))) (mapped (list_at at before) (add mark value)) (next_list mark at before value)

-- ---- the open blocks of it are what `put` gives

put_begun : (m : Mark) → begun m None ≡ mapped open_of (begun_at m)
put_begun (Key column key) = refl
put_begun (Dash column) = refl
put_begun (Value value) = refl

begun_full : (m : Mark) (v : Inline) → begun m (Some v) ≡ None
begun_full (Key column key) v = refl
begun_full (Dash column) v = refl
begun_full (Value value) v = refl

next_map_put : (m : Mark) (at : ℕ) (before : Entries) (last : List ℕ) (value : Layout)
    → next_in m (block.Map at (entries_of before) last) (node_of value) ≡ mapped open_of (next_map m at before last value)
next_map_put (Key column key) at before last value =
    elim (eqb at column) as (λ b. cond b (Some (block.Map at (entries_of before ++ entry_of last (node_of value) ∷ []) key ∷ [], None)) None
    ≡ mapped open_of (cond b (Some (map_at at (entry before last value) key nothing)) None)) [ true ↦ refl | false ↦ refl ]
next_map_put (Dash column) at before last value = refl
next_map_put (Value v) at before last value = refl

next_list_put : (m : Mark) (at : ℕ) (before : Elements) (value : Layout)
    → next_in m (block.List at (items_of before)) (node_of value) ≡ mapped open_of (next_list m at before value)
next_list_put (Key column key) at before value = refl
next_list_put (Dash column) at before value =
    elim (eqb at column) as (λ b. cond b (Some (block.List at (items_of before ++ node_of value ∷ []) ∷ [], None)) None
    ≡ mapped open_of (cond b (Some (list_at at (item before value) nothing)) None)) [ true ↦ refl | false ↦ refl ]
next_list_put (Value v) at before value = refl

-- a choice of which both sides are mapped
mapped_cond : {A B : Type 0} (f : A → B) (b : Bool) (x y : Option A) (x' y' : Option B)
    → x' ≡ mapped f x → y' ≡ mapped f y → cond b x' y' ≡ mapped f (cond b x y)
mapped_cond f true x y x' y' p q = p
mapped_cond f false x y x' y' p q = q

mapped_within : (b : Block) (f : Layout → Layout) (o : Option Layout)
    → ((l : Layout) → open_of (f l) ≡ within b (open_of l)) → mapped (within b) (mapped open_of o) ≡ mapped open_of (mapped f o)
mapped_within b f None h = refl
mapped_within b f (Some l) h = ap Some (sym (h l))

pub put_add : (m : Mark) (l : Layout) → put m (spine l) (tip l) ≡ mapped open_of (add m l)
put_add m nothing = put_begun m
put_add m (on_line value) = begun_full m value
put_add m (map_at at before last value) =
    mapped_cond open_of (is_inside m (block.Map at (entries_of before) last)) _ _ _ _
    (ap (mapped (within (block.Map at (entries_of before) last))) (put_add m value)
    ∙ mapped_within (block.Map at (entries_of before) last) (map_at at before last) (add m value) (λ l. refl))
    (ap (next_in m (block.Map at (entries_of before) last)) (closed_spine value) ∙ next_map_put m at before last value)
put_add m (list_at at before value) =
    mapped_cond open_of (is_inside m (block.List at (items_of before))) _ _ _ _
    (ap (mapped (within (block.List at (items_of before)))) (put_add m value)
    ∙ mapped_within (block.List at (items_of before)) (list_at at before) (add m value) (λ l. refl))
    (ap (next_in m (block.List at (items_of before))) (closed_spine value) ∙ next_list_put m at before value)

-- ---- what grows with it

-- The new layout has the mark at its end, stands where the old one may, and is as deep as the old one or as what
-- is open in it.
pub record Grows (m : Mark) (old new : Layout) : Type 0 where
  pub written : marks_of new ≡ marks_of old ++ m ∷ []
  pub indented : IsIndented old → IsIndented new
  pub under_key : (column : ℕ) (entries : List Entry) (key : List ℕ) → is_inside m (block.Map column entries key) ≡ true → IsUnderKey column old → IsUnderKey column new
  pub under_dash : (column : ℕ) (items : List Node) → is_inside m (block.List column items) ≡ true → IsUnderDash column old → IsUnderDash column new
  pub depth : depth_of new ≡ max (depth_of old) (open_depth new)

begun_grows : (m : Mark) → IfSome (begun_at m) (Grows m nothing)
begun_grows (Key column key) = record {
  written = refl;
  indented = λ h. (tt, tt, tt);
  under_key = λ at entries last inside h. ltb-true at column inside;
  under_dash = λ at items inside h. ltb-true at column inside;
  depth = refl;
}
begun_grows (Dash column) = record {
  written = refl;
  indented = λ h. (tt, tt, tt);
  under_key = λ at entries last inside h. leb-true at column inside;
  under_dash = λ at items inside h. ltb-true at column inside;
  depth = refl;
}
begun_grows (Value value) = record {
  written = refl;
  indented = λ h. tt;
  under_key = λ at entries last inside h. tt;
  under_dash = λ at items inside h. tt;
  depth = omega arith;
}

next_map_grows : (m : Mark) (at : ℕ) (before : Entries) (last : List ℕ) (value : Layout)
    → IfSome (next_map m at before last value) (Grows m (map_at at before last value))
next_map_grows (Dash column) at before last value = tt
next_map_grows (Value v) at before last value = tt
next_map_grows (Key column key) at before last value =
    cond_both (eqb at column) (Some (map_at at (entry before last value) key nothing)) None
    (λ o. IfSome o (Grows (Key column key) (map_at at before last value)))
    (λ same. record {
      written = ap (λ c. (entry_marks at before ++ Key at last ∷ marks_of value) ++ Key c key ∷ []) (eqb-true at column same);
      indented = λ h. (h, tt, tt);
      under_key = λ outer entries first inside h. h;
      under_dash = λ outer items inside h. h;
      depth = omega arith;
    })
    (λ other. tt)

next_list_grows : (m : Mark) (at : ℕ) (before : Elements) (value : Layout)
    → IfSome (next_list m at before value) (Grows m (list_at at before value))
next_list_grows (Key column key) at before value = tt
next_list_grows (Value v) at before value = tt
next_list_grows (Dash column) at before value =
    cond_both (eqb at column) (Some (list_at at (item before value) nothing)) None
    (λ o. IfSome o (Grows (Dash column) (list_at at before value)))
    (λ same. record {
      written = ap (λ c. (item_marks at before ++ Dash at ∷ marks_of value) ++ Dash c ∷ []) (eqb-true at column same);
      indented = λ h. (h, tt, tt);
      under_key = λ outer entries first inside h. h;
      under_dash = λ outer items inside h. h;
      depth = omega arith;
    })
    (λ other. tt)

pub IfSome-mapped : {A B : Type 0} (f : A → B) (o : Option A) (P : B → Type 0) → IfSome o (λ a. P (f a)) → IfSome (mapped f o) P
IfSome-mapped f None P h = tt
IfSome-mapped f (Some a) P h = h

map_grows : (m : Mark) (at : ℕ) (before : Entries) (last : List ℕ) (value new : Layout)
    → is_inside m (block.Map at (entries_of before) last) ≡ true → Grows m value new → Grows m (map_at at before last value) (map_at at before last new)
map_grows m at before last value new inside g = record {
  written = ap (λ ms. entry_marks at before ++ Key at last ∷ ms) g.written ∙ sym (append_assoc (entry_marks at before) (Key at last ∷ marks_of value) (m ∷ []));
  indented = λ h. (h.0, g.under_key at (entries_of before) last inside h.1, g.indented h.2);
  under_key = λ outer entries first into h. h;
  under_dash = λ outer items into h. h;
  depth = let d = g.depth in omega arith;
}

list_grows : (m : Mark) (at : ℕ) (before : Elements) (value new : Layout)
    → is_inside m (block.List at (items_of before)) ≡ true → Grows m value new → Grows m (list_at at before value) (list_at at before new)
list_grows m at before value new inside g = record {
  written = ap (λ ms. item_marks at before ++ Dash at ∷ ms) g.written ∙ sym (append_assoc (item_marks at before) (Dash at ∷ marks_of value) (m ∷ []));
  indented = λ h. (h.0, g.under_dash at (items_of before) inside h.1, g.indented h.2);
  under_key = λ outer entries first into h. h;
  under_dash = λ outer items into h. h;
  depth = let d = g.depth in omega arith;
}

pub add_grows : (m : Mark) (l : Layout) → IfSome (add m l) (Grows m l)
add_grows m nothing = begun_grows m
add_grows m (on_line value) = tt
add_grows m (map_at at before last value) =
    cond_both (is_inside m (block.Map at (entries_of before) last)) (mapped (map_at at before last) (add m value)) (next_map m at before last value)
    (λ o. IfSome o (Grows m (map_at at before last value)))
    (λ inside. IfSome-mapped (map_at at before last) (add m value) (Grows m (map_at at before last value))
    (IfSome_then (add m value) (add_grows m value) (λ new g. map_grows m at before last value new inside g)))
    (λ outside. next_map_grows m at before last value)
add_grows m (list_at at before value) =
    cond_both (is_inside m (block.List at (items_of before))) (mapped (list_at at before) (add m value)) (next_list m at before value)
    (λ o. IfSome o (Grows m (list_at at before value)))
    (λ inside. IfSome-mapped (list_at at before) (add m value) (Grows m (list_at at before value))
    (IfSome_then (add m value) (add_grows m value) (λ new g. list_grows m at before value new inside g)))
    (λ outside. next_list_grows m at before value)
