-- Lists with one more at their end, and nodes with lists.
use Rattle.std.proofs.Common.{◌≡◌, Bool, true, false, map, option_map, List, [], ◌∷◌, ◌++◌, Option, Some, None, refl, sym, ap, ap₂, ◌∙◌, subst, Vec, Box, Global}
use Rattle.ct_base.specs.declared.lexical.Span.{Span}
use Rattle.ct_syntax.specs.Words.{Text}
use Rattle.ct_syntax.specs.Trees as t
use Rattle.ct_syntax.specs.Views.{view, view_spec, view_declarator, expressions_of, specs_of}
use Rattle.ct_syntax.specs.UnitViews.{view_designator, view_initialiser, view_init_declarator, view_part, view_statement, view_item, body_of}
use Rattle.ct_syntax.specs.Lists.{optional_of, declarators_of, members_of, enumerators_of, parameters_of, initialisers_of, branches_of}
use Rattle.ct_syntax.specs.declared.expressions.Expr.{Expr}
use Rattle.ct_syntax.specs.declared.expressions.Spec.{Spec}
use Rattle.ct_syntax.specs.declared.expressions.Spec.TheVariants as s
use Rattle.ct_syntax.specs.declared.expressions.Member.{Member}
use Rattle.ct_syntax.specs.declared.expressions.Enumerator.{Enumerator}
use Rattle.ct_syntax.specs.declared.expressions.Parameter.{Parameter}
use Rattle.ct_syntax.specs.declared.expressions.Declarator.{Declarator}
use Rattle.ct_syntax.specs.declared.declarations.InitialiserItem.{InitialiserItem}
use Rattle.ct_syntax.specs.declared.declarations.InitDeclarator.{InitDeclarator}
use Rattle.ct_syntax.specs.declared.statements.Item.{Item}
use Rattle.ct_syntax.specs.declared.statements.Statement.{Statement}
use Rattle.ct_syntax.specs.declared.statements.Statement.TheVariants as u
use Rattle.ct_syntax.specs.declared.statements.Branch.{Branch}
use Rattle.ct_syntax.specs.declared.statements.BlockItem.{BlockItem}
use Rattle.ct_syntax.specs.declared.statements.BlockItem.TheVariants as b
use Rattle.ct_syntax.proofs.Views.{view_Call, view_SizeofType, view_Cast, view_StructList, view_EnumList, view_Array, view_Function}
use Rattle.ct_syntax.proofs.UnitViews.{view_List, view_Block, view_If, view_Switch}
use Rattle.ct_grammar_machine.specs.Algebra.{Aimed, Tree, designator_of, other_of, expressions_then, specs_then, members_then, enumerators_then, declarators_then, parameters_then, inits_then, branches_then, body_then}
use Rattle.ct_parser_parts.specs.Parts.{Built, Names, option_pair, kept, one as enclosing, over, pair}
use Rattle.ct_parser_parts.specs.Reach.{Depth, both, is_within}
use Rattle.ct_parser_parts.specs.Views.{names_of}
use Rattle.ct_parser_parts.specs.declared.parts.Declared.{Declared}

pub expressions_last : (xs : List Expr) (x : Expr) → expressions_of (xs ++ x ∷ []) ≡ expressions_then (expressions_of xs) (t.expression (view x) t.no_expression)
expressions_last [] x = refl
expressions_last (y ∷ xs) x = ap (t.expression (view y)) (expressions_last xs x)

spec_then : (y : Spec) (ss us : t.Specs) → specs_then (view_spec y ss) us ≡ view_spec y (specs_then ss us)
spec_then (s.Word at w) ss us = refl
spec_then (s.TypedefName at n) ss us = refl
spec_then (s.StructTag at n) ss us = refl
spec_then (s.StructList' at tag shape ms) ss us = refl
spec_then (s.EnumTag at n) ss us = refl
spec_then (s.EnumList' at tag shape es comma) ss us = refl

pub specs_last : (xs : List Spec) (x : Spec) → specs_of (xs ++ x ∷ []) ≡ specs_then (specs_of xs) (view_spec x t.no_spec)
specs_last [] x = refl
specs_last (y ∷ xs) x = ap (view_spec y) (specs_last xs x) ∙ sym (spec_then y (specs_of xs) (view_spec x t.no_spec))

pub members_last : (xs : List Member) (x : Member) → members_of (xs ++ x ∷ []) ≡ members_then (members_of xs) (t.member (specs_of x.specs.items) (declarators_of x.declarators.items) t.no_member)
members_last [] x = refl
members_last (y ∷ xs) x = ap (t.member (specs_of y.specs.items) (declarators_of y.declarators.items)) (members_last xs x)

pub declarators_last : (xs : List Declarator) (x : Declarator) → declarators_of (xs ++ x ∷ []) ≡ declarators_then (declarators_of xs) (t.declarator (view_declarator x) t.no_declarator)
declarators_last [] x = refl
declarators_last (y ∷ xs) x = ap (t.declarator (view_declarator y)) (declarators_last xs x)

pub enumerators_last : (xs : List Enumerator) (x : Enumerator) → enumerators_of (xs ++ x ∷ []) ≡ enumerators_then (enumerators_of xs) (t.enumerator x.name (optional_of x.value) t.no_enumerator)
enumerators_last [] x = refl
enumerators_last (y ∷ xs) x = ap (t.enumerator y.name (optional_of y.value)) (enumerators_last xs x)

pub parameters_last : (xs : List Parameter) (x : Parameter) → parameters_of (xs ++ x ∷ []) ≡ parameters_then (parameters_of xs) (t.parameter (specs_of x.specs.items) (view_declarator x.declarator) t.no_parameter)
parameters_last [] x = refl
parameters_last (y ∷ xs) x = ap (t.parameter (specs_of y.specs.items) (view_declarator y.declarator)) (parameters_last xs x)

pub initialisers_last : (xs : List InitialiserItem) (x : InitialiserItem) → initialisers_of (xs ++ x ∷ []) ≡ inits_then (initialisers_of xs) (t.item (view_designator x.designator) (view_initialiser x.value) t.no_item)
initialisers_last [] x = refl
initialisers_last (y ∷ xs) x = ap (t.item (view_designator y.designator) (view_initialiser y.value)) (initialisers_last xs x)

pub branches_last : (xs : List Branch) (x : Branch) → branches_of (xs ++ x ∷ []) ≡ branches_then (branches_of xs) (t.branch (view x.test) (view_statement x.body) t.no_branch)
branches_last [] x = refl
branches_last (y ∷ xs) x = ap (t.branch (view y.test) (view_statement y.body)) (branches_last xs x)

part_then : (y : BlockItem) (c d : t.Body) → body_then (view_part y c) d ≡ view_part y (body_then c d)
part_then (b.Case at x) c d = refl
part_then (b.Default at) c d = refl
part_then (b.Declaration x) c d = refl
part_then (b.Statement x) c d = refl

pub body_last : (xs : List BlockItem) (x : BlockItem) → body_of (xs ++ x ∷ []) ≡ body_then (body_of xs) (view_part x t.no_part)
body_last [] x = refl
body_last (y ∷ xs) x = ap (view_part y) (body_last xs x) ∙ sym (part_then y (body_of xs) (view_part x t.no_part))

pub names_append : (xs ys : List Declared) → names_of (xs ++ ys) ≡ names_of xs ++ names_of ys
names_append [] ys = refl
names_append (x ∷ xs) ys = ap (λ z. (x.name, x.is_type) ∷ z) (names_append xs ys)

pub names_last : (xs : List Declared) (x : Declared) → names_of (xs ++ x ∷ []) ≡ names_of xs ++ (x.name, x.is_type) ∷ []
names_last xs x = names_append xs (x ∷ [])

pub no_more_names : (a : Names) → a ++ [] ≡ a
no_more_names [] = refl
no_more_names (x ∷ a) = ap (λ z. x ∷ z) (no_more_names a)

pub items_last : (xs : List Item) (x : Item) → map view_item (xs ++ x ∷ []) ≡ map view_item xs ++ view_item x ∷ []
items_last [] x = refl
items_last (y ∷ xs) x = ap (λ z. view_item y ∷ z) (items_last xs x)

pub inits_last : (xs : List InitDeclarator) (x : InitDeclarator) → map view_init_declarator (xs ++ x ∷ []) ≡ map view_init_declarator xs ++ view_init_declarator x ∷ []
inits_last [] x = refl
inits_last (y ∷ xs) x = ap (λ z. view_init_declarator y ∷ z) (inits_last xs x)

abbrev with_item : t.InitialiserItems × (Aimed Tree × t.Initialiser) → t.InitialiserItems
with_item p = inits_then p.0 (t.item (designator_of p.1.0) p.1.1 t.no_item)

module _ {X Y Z : Type 0} (f : X → t.InitialiserItems) (g : Y → t.Designator) (h : Z → t.Initialiser) where
  pub aimed_none : (a : Option X) (d : Option Y) (b : Option Z) (o : Option (Aimed Tree)) → None ≡ option_pair a (option_pair d b) → option_map g d ≡ option_map designator_of o → option_map with_item (option_pair (option_map f a) (option_pair o (option_map h b))) ≡ None
  aimed_none None d b o e k = refl
  aimed_none (Some x) None b None e k = refl
  aimed_none (Some x) None b (Some aim) e k = absurd cc
  aimed_none (Some x) (Some y) None None e k = refl
  aimed_none (Some x) (Some y) None (Some aim) e k = refl
  aimed_none (Some x) (Some y) (Some z) o e k = absurd cc

  pub aimed_some : (a : Option X) (d : Option Y) (b : Option Z) (o : Option (Aimed Tree)) (p : X × (Y × Z)) → Some p ≡ option_pair a (option_pair d b) → option_map g d ≡ option_map designator_of o → option_map with_item (option_pair (option_map f a) (option_pair o (option_map h b))) ≡ Some (inits_then (f p.0) (t.item (g p.1.0) (h p.1.1) t.no_item))
  aimed_some None d b o p e k = absurd cc
  aimed_some (Some x) None b o p e k = absurd cc
  aimed_some (Some x) (Some y) None o p e k = absurd cc
  aimed_some (Some x) (Some y) (Some z) None p e k = absurd cc
  aimed_some (Some x) (Some y) (Some z) (Some aim) p e k =
      let at : p ≡ (x, (y, z)) = cc in
      let same : g y ≡ designator_of aim = cc in
      subst (λ q. Some (inits_then (f x) (t.item (designator_of aim) (h z) t.no_item)) ≡ Some (inits_then (f q.0) (t.item (g q.1.0) (h q.1.1) t.no_item))) (sym at)
      (ap (λ d. Some (inits_then (f x) (t.item d (h z) t.no_item))) (sym same))

-- ---- what is seen of parts that are built, or of none where one of them is not

module _ {A A' : Type 0} (f : A → A') where
  pub map_none : (w : Bool) (a : Option A) → None ≡ kept w a → kept w (option_map f a) ≡ None
  map_none false a e = refl
  map_none true a e = ap (option_map f) (sym e)

  pub map_some : (w : Bool) (a : Option A) (x : A) → Some x ≡ kept w a → kept w (option_map f a) ≡ Some (f x)
  map_some false a x e = absurd cc
  map_some true a x e = ap (option_map f) (sym e)

module _ {A A' B B' : Type 0} (f : A → A') (g : B → B') where
  abbrev on_both : A × B → A' × B'
  on_both p = (f p.0, g p.1)

  pair_map : (a : Option A) (b : Option B) → option_pair (option_map f a) (option_map g b) ≡ option_map on_both (option_pair a b)
  pair_map None b = refl
  pair_map (Some x) None = refl
  pair_map (Some x) (Some y) = refl

  pub pair_empty : (a : Option A) (b : Option B) → None ≡ option_pair a b → option_pair (option_map f a) (option_map g b) ≡ None
  pair_empty a b e = pair_map a b ∙ ap (option_map on_both) (sym e)

  pub pair_some : (a : Option A) (b : Option B) (p : A × B) → Some p ≡ option_pair a b → option_pair (option_map f a) (option_map g b) ≡ Some (f p.0, g p.1)
  pair_some a b p e = pair_map a b ∙ ap (option_map on_both) (sym e)

  pub two_none : (w : Bool) (a : Option A) (b : Option B) → None ≡ kept w (option_pair a b) → kept w (option_pair (option_map f a) (option_map g b)) ≡ None
  two_none w a b e = ap (kept w) (pair_map a b) ∙ map_none on_both w (option_pair a b) e

  pub two_some : (w : Bool) (a : Option A) (b : Option B) (p : A × B) → Some p ≡ kept w (option_pair a b) → kept w (option_pair (option_map f a) (option_map g b)) ≡ Some (f p.0, g p.1)
  two_some w a b p e = ap (kept w) (pair_map a b) ∙ map_some on_both w (option_pair a b) p e

  -- the second of them is itself what is kept of a construct
  inside_map : (w : Bool) (b : Option B) → option_map (λ z. z) (kept w (option_map g b)) ≡ option_map g (kept w b)
  inside_map false b = refl
  inside_map true None = refl
  inside_map true (Some y) = refl

  pub inside_none : (w : Bool) (a : Option A) (b : Option B) → None ≡ option_pair a (kept w b) → option_pair (option_map f a) (option_map (λ z. z) (kept w (option_map g b))) ≡ None
  inside_none w a b e = ap (option_pair (option_map f a)) (inside_map w b) ∙ pair_empty a (kept w b) e

  pub inside_some : (w : Bool) (a : Option A) (b : Option B) (p : A × B) → Some p ≡ option_pair a (kept w b) → option_pair (option_map f a) (option_map (λ z. z) (kept w (option_map g b))) ≡ Some (f p.0, g p.1)
  inside_some w a b p e = ap (option_pair (option_map f a)) (inside_map w b) ∙ pair_some a (kept w b) p e

module _ {A A' B B' C C' : Type 0} (f : A → A') (g : B → B') (h : C → C') where
  pub three_none : (w : Bool) (a : Option A) (b : Option B) (c : Option C) → None ≡ kept w (option_pair (option_pair a b) c) → kept w (option_pair (option_pair (option_map f a) (option_map g b)) (option_map h c)) ≡ None
  three_none w a b c e = ap (λ z. kept w (option_pair z (option_map h c))) (pair_map f g a b) ∙ two_none (on_both f g) h w (option_pair a b) c e

  pub three_some : (w : Bool) (a : Option A) (b : Option B) (c : Option C) (p : (A × B) × C) → Some p ≡ kept w (option_pair (option_pair a b) c) → kept w (option_pair (option_pair (option_map f a) (option_map g b)) (option_map h c)) ≡ Some ((f p.0.0, g p.0.1), h p.1)
  three_some w a b c p e = ap (λ z. kept w (option_pair z (option_map h c))) (pair_map f g a b) ∙ two_some (on_both f g) h w (option_pair a b) c p e

  pub further_none : (a : Option A) (b : Option B) (c : Option C) → None ≡ option_pair a (option_pair b c) → option_pair (option_map f a) (option_pair (option_map g b) (option_map h c)) ≡ None
  further_none a b c e = ap (option_pair (option_map f a)) (pair_map g h b c) ∙ pair_empty f (on_both g h) a (option_pair b c) e

  pub further_some : (a : Option A) (b : Option B) (c : Option C) (p : A × (B × C)) → Some p ≡ option_pair a (option_pair b c) → option_pair (option_map f a) (option_pair (option_map g b) (option_map h c)) ≡ Some (f p.0, (g p.1.0, h p.1.1))
  further_some a b c p e = ap (option_pair (option_map f a)) (pair_map g h b c) ∙ pair_some f (on_both g h) a (option_pair b c) p e

module _ {A A' B B' C C' D D' : Type 0} (f : A → A') (g : B → B') (h : C → C') (k : D → D') where
  pub four_none : (w : Bool) (a : Option A) (b : Option B) (c : Option C) (d : Option D) → None ≡ kept w (option_pair (option_pair (option_pair a b) c) d) → kept w (option_pair (option_pair (option_pair (option_map f a) (option_map g b)) (option_map h c)) (option_map k d)) ≡ None
  four_none w a b c d e = ap (λ z. kept w (option_pair (option_pair z (option_map h c)) (option_map k d))) (pair_map f g a b) ∙ three_none (on_both f g) h k w (option_pair a b) c d e

  pub four_some : (w : Bool) (a : Option A) (b : Option B) (c : Option C) (d : Option D) (p : ((A × B) × C) × D) → Some p ≡ kept w (option_pair (option_pair (option_pair a b) c) d) → kept w (option_pair (option_pair (option_pair (option_map f a) (option_map g b)) (option_map h c)) (option_map k d)) ≡ Some (((f p.0.0.0, g p.0.0.1), h p.0.1), k p.1)
  four_some w a b c d p e = ap (λ z. kept w (option_pair (option_pair z (option_map h c)) (option_map k d))) (pair_map f g a b) ∙ three_some (on_both f g) h k w (option_pair a b) c d p e

  pub defined_none : (w : Bool) (a : Option A) (b : Option B) (c : Option C) (d : Option D) → None ≡ option_pair a (option_pair (option_pair b c) (kept w d)) → option_pair (option_map f a) (option_pair (option_pair (option_map g b) (option_map h c)) (option_map (λ z. z) (kept w (option_map k d)))) ≡ None
  defined_none w a b c d e = ap (λ z. option_pair (option_map f a) (option_pair z (option_map (λ y. y) (kept w (option_map k d))))) (pair_map g h b c) ∙ ap (λ z. option_pair (option_map f a) (option_pair (option_map (on_both g h) (option_pair b c)) z)) (inside_map g k w d) ∙ further_none f (on_both g h) k a (option_pair b c) (kept w d) e

  pub defined_some : (w : Bool) (a : Option A) (b : Option B) (c : Option C) (d : Option D) (p : A × ((B × C) × D)) → Some p ≡ option_pair a (option_pair (option_pair b c) (kept w d)) → option_pair (option_map f a) (option_pair (option_pair (option_map g b) (option_map h c)) (option_map (λ z. z) (kept w (option_map k d)))) ≡ Some (f p.0, ((g p.1.0.0, h p.1.0.1), k p.1.1))
  defined_some w a b c d p e = ap (λ z. option_pair (option_map f a) (option_pair z (option_map (λ y. y) (kept w (option_map k d))))) (pair_map g h b c) ∙ ap (λ z. option_pair (option_map f a) (option_pair (option_map (on_both g h) (option_pair b c)) z)) (inside_map g k w d) ∙ further_some f (on_both g h) k a (option_pair b c) (kept w d) p e

pub leaf_none : (w : Bool) (x : Expr) → None ≡ kept w (Some x) → kept w (Some (view x)) ≡ None
leaf_none w x e = map_none view w (Some x) e

pub leaf_some : (w : Bool) (x y : Expr) → Some y ≡ kept w (Some x) → kept w (Some (view x)) ≡ Some (view y)
leaf_some w x y e = map_some view w (Some x) y e

pub simple_none : (w : Bool) (x : Statement) → None ≡ kept w (Some x) → kept w (Some (view_statement x)) ≡ None
simple_none w x e = map_none view_statement w (Some x) e

pub simple_some : (w : Bool) (x y : Statement) → Some y ≡ kept w (Some x) → kept w (Some (view_statement x)) ≡ Some (view_statement y)
simple_some w x y e = map_some view_statement w (Some x) y e

pub ruleset leaves = (leaf_none, leaf_some, simple_none, simple_some)

pub ruleset one = (map_none, map_some)

pub ruleset two = (two_none, two_some)

pub ruleset three = (three_none, three_some)

pub ruleset four = (four_none, four_some)

pub ruleset one_more = (pair_empty, pair_some)

pub ruleset two_more = (further_none, further_some)

pub ruleset one_inside = (inside_none, inside_some)

pub ruleset definition = (defined_none, defined_some)

pub ruleset designated = (initialisers_last, aimed_some, aimed_none)

pub ruleset tree_views = (view_Call, view_SizeofType, view_Cast, view_StructList, view_EnumList)

pub ruleset declarator_views = (view_Array, view_Function)

pub view_if : (at : Span) (bs : Vec Branch Global) (o : Option (Box Statement Global)) → view_statement (u.If at bs o) ≡ t.If (branches_of bs.items) (other_of (option_map (λ b. view_statement b.value) o))
view_if at bs None = view_If at bs None
view_if at bs (Some s) = view_If at bs (Some s)

pub ruleset unit_views = (view_List, view_Block, view_if, view_Switch)

-- ---- constructs of which a lemma says what is seen of them

abbrev pub built_at : {T : Type 0} → Option T → Depth → Built T
built_at tree reach = record { tree = tree; reach = reach }

module _ {A A' T : Type 0} (f : A → A') (build : A' → T) (deep : Depth → Depth) where
  pub built_one : (ra r : Depth) (a o : Option A) (x : A) (tree : T) → r ≡ deep ra → o ≡ kept (is_within (deep ra)) a → o ≡ Some x → tree ≡ build (f x)
      → built_at (Some tree) r ≡ enclosing deep build (built_at (option_map f a) ra)
  built_one ra r a o x tree is_deep is_kept is_some is =
      ap₂ built_at (ap Some is ∙ sym (ap (option_map build) (map_some f (is_within (deep ra)) a x (sym is_some ∙ is_kept)))) is_deep

module _ {A A' B B' T : Type 0} (f : A → A') (g : B → B') (build : A' × B' → T) (deep : Depth → Depth) where
  pub built_two : (ra rb r r' : Depth) (a : Option A) (b : Option B) (o o' : Option (A × B)) (p : A × B) (tree : T)
      → r ≡ both ra rb → o ≡ option_pair a b → r' ≡ deep r → o' ≡ kept (is_within (deep r)) o → o' ≡ Some p → tree ≡ build (f p.0, g p.1)
      → built_at (Some tree) r' ≡ enclosing deep build (pair (built_at (option_map f a) ra) (built_at (option_map g b) rb))
  built_two ra rb r r' a b o o' p tree joins pairs is_deep is_kept is_some is =
      let e : Some p ≡ kept (is_within (deep (both ra rb))) (option_pair a b) =
      sym is_some ∙ is_kept ∙ ap₂ (λ d z. kept (is_within (deep d)) z) joins pairs in
      ap₂ built_at (ap Some is ∙ sym (ap (option_map build) (two_some f g (is_within (deep (both ra rb))) a b p e))) (is_deep ∙ ap deep joins)

module _ {A A' B B' C C' T : Type 0} (f : A → A') (g : B → B') (h : C → C') (build : (A' × B') × C' → T) (deep : Depth → Depth) where
  pub built_three : (ra rb rc r r' r'' : Depth) (a : Option A) (b : Option B) (c : Option C) (o : Option (A × B)) (o' o'' : Option ((A × B) × C)) (p : (A × B) × C) (tree : T)
      → r ≡ both ra rb → o ≡ option_pair a b → r' ≡ both r rc → o' ≡ option_pair o c → r'' ≡ deep r' → o'' ≡ kept (is_within (deep r')) o' → o'' ≡ Some p
      → tree ≡ build ((f p.0.0, g p.0.1), h p.1)
      → built_at (Some tree) r'' ≡ enclosing deep build (pair (pair (built_at (option_map f a) ra) (built_at (option_map g b) rb)) (built_at (option_map h c) rc))
  built_three ra rb rc r r' r'' a b c o o' o'' p tree joins pairs joins' pairs' is_deep is_kept is_some is =
      let reached : r' ≡ both (both ra rb) rc = joins' ∙ ap (λ d. both d rc) joins in
      let paired : o' ≡ option_pair (option_pair a b) c = pairs' ∙ ap (λ z. option_pair z c) pairs in
      let e : Some p ≡ kept (is_within (deep (both (both ra rb) rc))) (option_pair (option_pair a b) c) =
      sym is_some ∙ is_kept ∙ ap₂ (λ d z. kept (is_within (deep d)) z) reached paired in
      ap₂ built_at (ap Some is ∙ sym (ap (option_map build) (three_some f g h (is_within (deep (both (both ra rb) rc))) a b c p e))) (is_deep ∙ ap deep reached)

module _ {A A' B B' C C' D D' T : Type 0} (f : A → A') (g : B → B') (h : C → C') (k : D → D') (build : ((A' × B') × C') × D' → T) (deep : Depth → Depth) where
  abbrev together : Depth → Depth → Depth → Depth → Option A → Option B → Option C → Option D → Built T
  together ra rb rc rd a b c d =
      enclosing deep build (pair (pair (pair (built_at (option_map f a) ra) (built_at (option_map g b) rb)) (built_at (option_map h c) rc)) (built_at (option_map k d) rd))

  pub built_four : (ra rb rc rd r r' r'' r''' : Depth) (a : Option A) (b : Option B) (c : Option C) (d : Option D)
      (o : Option (A × B)) (o' : Option ((A × B) × C)) (o'' o''' : Option (((A × B) × C) × D)) (p : ((A × B) × C) × D) (tree : T)
      → r ≡ both ra rb → o ≡ option_pair a b → r' ≡ both r rc → o' ≡ option_pair o c → r'' ≡ both r' rd → o'' ≡ option_pair o' d
      → r''' ≡ deep r'' → o''' ≡ kept (is_within (deep r'')) o'' → o''' ≡ Some p → tree ≡ build (((f p.0.0.0, g p.0.0.1), h p.0.1), k p.1)
      → built_at (Some tree) r''' ≡ together ra rb rc rd a b c d
  built_four ra rb rc rd r r' r'' r''' a b c d o o' o'' o''' p tree j1 p1 j2 p2 j3 p3 is_deep is_kept is_some is =
      let reached : r'' ≡ both (both (both ra rb) rc) rd = j3 ∙ ap (λ z. both z rd) (j2 ∙ ap (λ z. both z rc) j1) in
      let paired : o'' ≡ option_pair (option_pair (option_pair a b) c) d = p3 ∙ ap (λ z. option_pair z d) (p2 ∙ ap (λ z. option_pair z c) p1) in
      let e : Some p ≡ kept (is_within (deep (both (both (both ra rb) rc) rd))) (option_pair (option_pair (option_pair a b) c) d) =
      sym is_some ∙ is_kept ∙ ap₂ (λ d' z. kept (is_within (deep d')) z) reached paired in
      ap₂ built_at (ap Some is ∙ sym (ap (option_map build) (four_some f g h k (is_within (deep (both (both (both ra rb) rc) rd))) a b c d p e))) (is_deep ∙ ap deep reached)

  pub empty_four : (ra rb rc rd r r' r'' r''' : Depth) (a : Option A) (b : Option B) (c : Option C) (d : Option D)
      (o : Option (A × B)) (o' : Option ((A × B) × C)) (o'' o''' : Option (((A × B) × C) × D))
      → r ≡ both ra rb → o ≡ option_pair a b → r' ≡ both r rc → o' ≡ option_pair o c → r'' ≡ both r' rd → o'' ≡ option_pair o' d
      → r''' ≡ deep r'' → o''' ≡ kept (is_within (deep r'')) o'' → o''' ≡ None
      → built_at None r''' ≡ together ra rb rc rd a b c d
  empty_four ra rb rc rd r r' r'' r''' a b c d o o' o'' o''' j1 p1 j2 p2 j3 p3 is_deep is_kept is_none =
      let reached : r'' ≡ both (both (both ra rb) rc) rd = j3 ∙ ap (λ z. both z rd) (j2 ∙ ap (λ z. both z rc) j1) in
      let paired : o'' ≡ option_pair (option_pair (option_pair a b) c) d = p3 ∙ ap (λ z. option_pair z d) (p2 ∙ ap (λ z. option_pair z c) p1) in
      let e : None ≡ kept (is_within (deep (both (both (both ra rb) rc) rd))) (option_pair (option_pair (option_pair a b) c) d) =
      sym is_none ∙ is_kept ∙ ap₂ (λ d' z. kept (is_within (deep d')) z) reached paired in
      ap₂ built_at (sym (ap (option_map build) (four_none f g h k (is_within (deep (both (both (both ra rb) rc) rd))) a b c d e))) (is_deep ∙ ap deep reached)

-- two parts, the second of them perhaps a construct of its own, in a list
module _ {A A' B B' T : Type 0} (f : A → A') (g : B → B') (build : A' × B' → T) where
  pub listed_two : (ra rb r : Depth) (a : Option A) (b : Option B) (o : Option (A × B)) (p : A × B) (tree : T)
      → r ≡ both ra rb → o ≡ option_pair a b → o ≡ Some p → tree ≡ build (f p.0, g p.1)
      → built_at (Some tree) r ≡ over build (pair (built_at (option_map f a) ra) (built_at (option_map g b) rb))
  listed_two ra rb r a b o p tree joins pairs is_some is =
      ap₂ built_at (ap Some is ∙ sym (ap (option_map build) (pair_some f g a b p (sym is_some ∙ pairs)))) joins

  pub listed_inside : (deep : Depth → Depth) (ra rb r' r : Depth) (a : Option A) (b b' : Option B) (o : Option (A × B)) (p : A × B) (tree : T)
      → r' ≡ deep rb → b' ≡ kept (is_within (deep rb)) b → r ≡ both ra r' → o ≡ option_pair a b' → o ≡ Some p → tree ≡ build (f p.0, g p.1)
      → built_at (Some tree) r ≡ over build (pair (built_at (option_map f a) ra) (enclosing deep (λ z. z) (built_at (option_map g b) rb)))
  listed_inside deep ra rb r' r a b b' o p tree is_deep is_kept joins pairs is_some is =
      let e : Some p ≡ option_pair a (kept (is_within (deep rb)) b) = sym is_some ∙ pairs ∙ ap (option_pair a) is_kept in
      ap₂ built_at (ap Some is ∙ sym (ap (option_map build) (inside_some f g (is_within (deep rb)) a b p e))) (joins ∙ ap (both ra) is_deep)
