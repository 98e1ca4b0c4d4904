-- The machine of trees and that of trees up to the limits go the same way.
use Rattle.std.proofs.Common.{◌≡◌, ℕ, ◌+◌, ◌==◌, ◌&&◌, ◌||◌, Bool, true, false, if◌then◌else◌, List, [], ◌∷◌, ◌++◌, Option, Some, None, refl, sym, ap, ◌∙◌, arith}
use Rattle.std.specs.Prelude.{option_map, is_none}
use Rattle.std.proofs.lemmas.Bool.{eqb-true}
use Rattle.ct_syntax.specs.declared.words.SpecWord.{SpecWord}
use Rattle.ct_syntax.specs.declared.words.SpecWord.TheVariants as sw
use Rattle.ct_syntax.specs.Words.{Text}
use Rattle.ct_syntax.specs.Scopes.{Scope, with_name, with_maybe, name_of, is_typedef, is_plain_declarator, own_parameters, after_specs, after_members, after_enumerators, after_declarator, after_parameters}
use Rattle.ct_syntax.specs.TypeWords.{specifier_words, whole_types}
use Rattle.ct_syntax.specs.Grammar.{has_parameters, is_only_void}
use Rattle.ct_parser_parts.specs.Reach.{Depth, flat, both, is_within, passed_by, nested, in_expression, in_declarator, in_statement, depth, depths, depth_optional, depth_specs, depth_members, depth_enumerators, depth_declarators, depth_declarator, depth_parameters, depth_designator, depth_initialiser, depth_items, depth_start, depth_init_declarators, depth_declaration, depth_maybe, depth_for_start, depth_statement, depth_branches, depth_other, depth_body, depth_item, depth_unit}
use Rattle.ct_syntax.specs.Trees as t
use Rattle.ct_grammar_machine.specs.Algebra.{Sort, expr, exprs, specs, members, enumerators, declarators, decl, parameters, init, inits, init_declarators, declaration, for_start, stmt, branches, body, items, Aimed, AtNext, AtMember, AtIndex, Tree, trees_built, designator_of, other_of, expressions_then, specs_then, members_then, enumerators_then, declarators_then, parameters_then, inits_then, branches_then, body_then}
use Rattle.ct_parser_parts.specs.Parts.{Names, declare_all, names_specs, names_members, names_enumerators, name_maybe, names_parameters, SpecInfo, Info, is_typedef_word, is_nameless, is_empty, is_one_void, info_of, depth_of, Built, kept, fit, part, one, over, option_pair, pair, built_of, aimed, make, with_whole, parts_built}
use Rattle.ct_grammar_laws.proofs.TypeParts.{whole_then, words_then}
use Rattle.ct_base.specs.declared.limits.LimitKind.{LimitKind}
use Rattle.ct_syntax.specs.Depths.{all_room, or_else}
use Rattle.ct_parser_parts.specs.declared.reach.Nest.{Nest}
use Rattle.ct_parser_parts.specs.declared.reach.Nest.TheVariants.{Expression as OfExpression, Declarator as OfDeclarator, Statement as OfStatement}
use Rattle.ct_parser.proofs.ReachLaws.{both_flat, flat_both, both-assoc, passed-both, parts_pass}
use Rattle.ct_grammar_laws.proofs.Map.{map_aimed, Hom}

-- ---- depths

swap_flat : (a : Depth) → both a flat ≡ both flat a
swap_flat a = both_flat a ∙ sym (flat_both a)

-- a list with one part more, by what its front has
grown : (a b c d : Depth) → b ≡ both c d → both a b ≡ both (both a c) d
grown a b c d e = ap (both a) e ∙ sym (both-assoc a c d)

depths-last : (xs : t.Expressions) (x : t.Expression) → depths (expressions_then xs (t.expression x t.no_expression)) ≡ both (depths xs) (depth x)
depths-last t.no_expression x = swap_flat (depth x)
depths-last (t.expression y xs) x = grown (depth y) _ (depths xs) (depth x) (depths-last xs x)

depth_members-last : (xs : t.Members) (ss : t.Specs) (ds : t.Declarators) → depth_members (members_then xs (t.member ss ds t.no_member)) ≡ both (depth_members xs) (both (depth_specs ss) (depth_declarators ds))
depth_members-last t.no_member ss ds = swap_flat (both (depth_specs ss) (depth_declarators ds))
depth_members-last (t.member us es xs) ss ds = grown (both (depth_specs us) (depth_declarators es)) _ (depth_members xs) (both (depth_specs ss) (depth_declarators ds)) (depth_members-last xs ss ds)

depth_declarators-last : (xs : t.Declarators) (d : t.Declarator) → depth_declarators (declarators_then xs (t.declarator d t.no_declarator)) ≡ both (depth_declarators xs) (depth_declarator d)
depth_declarators-last t.no_declarator d = swap_flat (depth_declarator d)
depth_declarators-last (t.declarator y xs) d = grown (depth_declarator y) _ (depth_declarators xs) (depth_declarator d) (depth_declarators-last xs d)

depth_enumerators-last : (xs : t.Enumerators) (u : Text) (v : t.Optional) → depth_enumerators (enumerators_then xs (t.enumerator u v t.no_enumerator)) ≡ both (depth_enumerators xs) (depth_optional v)
depth_enumerators-last t.no_enumerator u v = swap_flat (depth_optional v)
depth_enumerators-last (t.enumerator y z xs) u v = grown (depth_optional z) _ (depth_enumerators xs) (depth_optional v) (depth_enumerators-last xs u v)

depth_parameters-last : (xs : t.Parameters) (ss : t.Specs) (d : t.Declarator) → depth_parameters (parameters_then xs (t.parameter ss d t.no_parameter)) ≡ both (depth_parameters xs) (both (depth_specs ss) (depth_declarator d))
depth_parameters-last t.no_parameter ss d = swap_flat (both (depth_specs ss) (depth_declarator d))
depth_parameters-last (t.parameter us e xs) ss d = grown (both (depth_specs us) (depth_declarator e)) _ (depth_parameters xs) (both (depth_specs ss) (depth_declarator d)) (depth_parameters-last xs ss d)

depth_items-last : (xs : t.InitialiserItems) (g : t.Designator) (v : t.Initialiser) → depth_items (inits_then xs (t.item g v t.no_item)) ≡ both (depth_items xs) (both (depth_designator g) (depth_initialiser v))
depth_items-last t.no_item g v = swap_flat (both (depth_designator g) (depth_initialiser v))
depth_items-last (t.item e y xs) g v = grown (both (depth_designator e) (depth_initialiser y)) _ (depth_items xs) (both (depth_designator g) (depth_initialiser v)) (depth_items-last xs g v)

depth_branches-last : (xs : t.Branches) (c : t.Expression) (u : t.Statement) → depth_branches (branches_then xs (t.branch c u t.no_branch)) ≡ both (depth_branches xs) (both (depth c) (depth_statement u))
depth_branches-last t.no_branch c u = swap_flat (both (depth c) (depth_statement u))
depth_branches-last (t.branch e y xs) c u = grown (both (depth e) (depth_statement y)) _ (depth_branches xs) (both (depth c) (depth_statement u)) (depth_branches-last xs c u)

depth_inits-last : (xs : List t.InitDeclarator) (d : t.InitDeclarator) → depth_init_declarators (xs ++ d ∷ []) ≡ both (depth_init_declarators xs) (both (depth_declarator d.declarator) (depth_start d.start))
depth_inits-last [] d = swap_flat (both (depth_declarator d.declarator) (depth_start d.start))
depth_inits-last (e ∷ xs) d = grown (both (depth_declarator e.declarator) (depth_start e.start)) _ (depth_init_declarators xs) (both (depth_declarator d.declarator) (depth_start d.start)) (depth_inits-last xs d)

depth_unit-last : (xs : List t.Item) (x : t.Item) → depth_unit (xs ++ x ∷ []) ≡ both (depth_unit xs) (depth_item x)
depth_unit-last [] x = swap_flat (depth_item x)
depth_unit-last (y ∷ xs) x = grown (depth_item y) _ (depth_unit xs) (depth_item x) (depth_unit-last xs x)

depth_specs-then : (ss us : t.Specs) → depth_specs (specs_then ss us) ≡ both (depth_specs ss) (depth_specs us)
depth_specs-then t.no_spec us = sym (flat_both (depth_specs us))
depth_specs-then (t.spec_word k ss) us = depth_specs-then ss us
depth_specs-then (t.typedef_name u ss) us = depth_specs-then ss us
depth_specs-then (t.struct_tag u ss) us = depth_specs-then ss us
depth_specs-then (t.struct_list tag ms ss) us = grown (in_declarator (depth_members ms)) _ (depth_specs ss) (depth_specs us) (depth_specs-then ss us)
depth_specs-then (t.enum_tag u ss) us = depth_specs-then ss us
depth_specs-then (t.enum_list tag es c ss) us = grown (depth_enumerators es) _ (depth_specs ss) (depth_specs us) (depth_specs-then ss us)

depth_body-then : (c d : t.Body) → depth_body (body_then c d) ≡ both (depth_body c) (depth_body d)
depth_body-then t.no_part d = sym (flat_both (depth_body d))
depth_body-then (t.case_label x c) d = grown (depth x) _ (depth_body c) (depth_body d) (depth_body-then c d)
depth_body-then (t.default_label c) d = depth_body-then c d
depth_body-then (t.declared e c) d = grown (depth_declaration e) _ (depth_body c) (depth_body d) (depth_body-then c d)
depth_body-then (t.stated u c) d = grown (depth_statement u) _ (depth_body c) (depth_body d) (depth_body-then c d)

-- ---- names and the other things that control reads

no_more : {T : Type 0} → (xs : List T) → xs ++ [] ≡ xs
no_more [] = refl
no_more (x ∷ xs) = ap (λ ys. x ∷ ys) (no_more xs)

joined : (a b c : Names) → (a ++ b) ++ c ≡ a ++ (b ++ c)
joined [] b c = refl
joined (x ∷ a) b c = ap (λ ys. x ∷ ys) (joined a b c)

declare_all-append : (scope : Scope) (a b : Names) → declare_all scope (a ++ b) ≡ declare_all (declare_all scope a) b
declare_all-append scope [] b = refl
declare_all-append scope ((u, z) ∷ a) b = declare_all-append (with_name scope u z) a b

mutual
  specs_names : (ss : t.Specs) (scope : Scope) → after_specs scope ss ≡ declare_all scope (names_specs ss)
  specs_names t.no_spec scope = refl
  specs_names (t.spec_word k ss) scope = specs_names ss scope
  specs_names (t.typedef_name u ss) scope = specs_names ss scope
  specs_names (t.struct_tag u ss) scope = specs_names ss scope
  specs_names (t.struct_list tag ms ss) scope = specs_names ss (after_members scope ms) ∙ ap (λ z. declare_all z (names_specs ss)) (members_names ms scope) ∙ sym (declare_all-append scope (names_members ms) (names_specs ss))
  specs_names (t.enum_tag u ss) scope = specs_names ss scope
  specs_names (t.enum_list tag es c ss) scope = specs_names ss (after_enumerators scope es) ∙ ap (λ z. declare_all z (names_specs ss)) (enumerators_names es scope) ∙ sym (declare_all-append scope (names_enumerators es) (names_specs ss))

  members_names : (ms : t.Members) (scope : Scope) → after_members scope ms ≡ declare_all scope (names_members ms)
  members_names t.no_member scope = refl
  members_names (t.member ss ds ms) scope = members_names ms (after_specs scope ss) ∙ ap (λ z. declare_all z (names_members ms)) (specs_names ss scope) ∙ sym (declare_all-append scope (names_specs ss) (names_members ms))

  enumerators_names : (es : t.Enumerators) (scope : Scope) → after_enumerators scope es ≡ declare_all scope (names_enumerators es)
  enumerators_names t.no_enumerator scope = refl
  enumerators_names (t.enumerator u v es) scope = enumerators_names es (with_name scope u false)

maybe_names : (n : Option Text) (z : Bool) (scope : Scope) → with_maybe scope n z ≡ declare_all scope (name_maybe n z)
maybe_names None z scope = refl
maybe_names (Some u) z scope = refl

parameters_names : (ps : t.Parameters) (scope : Scope) → after_parameters scope ps ≡ declare_all scope (names_parameters ps)
parameters_names t.no_parameter scope = refl
parameters_names (t.parameter ss d ps) scope =
    let named = name_maybe (name_of d) (is_typedef ss) in
    parameters_names ps (after_declarator (after_specs scope ss) ss d)
    ∙ ap (λ z. declare_all z (names_parameters ps)) (maybe_names (name_of d) (is_typedef ss) (after_specs scope ss))
    ∙ ap (λ z. declare_all (declare_all z named) (names_parameters ps)) (specs_names ss scope)
    ∙ sym (declare_all-append (declare_all scope (names_specs ss)) named (names_parameters ps))
    ∙ sym (declare_all-append scope (names_specs ss) (named ++ names_parameters ps))

names_specs-then : (ss us : t.Specs) → names_specs (specs_then ss us) ≡ names_specs ss ++ names_specs us
names_specs-then t.no_spec us = refl
names_specs-then (t.spec_word k ss) us = names_specs-then ss us
names_specs-then (t.typedef_name u ss) us = names_specs-then ss us
names_specs-then (t.struct_tag u ss) us = names_specs-then ss us
names_specs-then (t.struct_list tag ms ss) us = ap (λ z. names_members ms ++ z) (names_specs-then ss us) ∙ sym (joined (names_members ms) (names_specs ss) (names_specs us))
names_specs-then (t.enum_tag u ss) us = names_specs-then ss us
names_specs-then (t.enum_list tag es c ss) us = ap (λ z. names_enumerators es ++ z) (names_specs-then ss us) ∙ sym (joined (names_enumerators es) (names_specs ss) (names_specs us))

names_members-last : (ms : t.Members) (ss : t.Specs) (ds : t.Declarators) → names_members (members_then ms (t.member ss ds t.no_member)) ≡ names_members ms ++ names_specs ss
names_members-last t.no_member ss ds = no_more (names_specs ss)
names_members-last (t.member us es ms) ss ds = ap (λ z. names_specs us ++ z) (names_members-last ms ss ds) ∙ sym (joined (names_specs us) (names_members ms) (names_specs ss))

names_enumerators-last : (es : t.Enumerators) (u : Text) (v : t.Optional) → names_enumerators (enumerators_then es (t.enumerator u v t.no_enumerator)) ≡ names_enumerators es ++ (u, false) ∷ []
names_enumerators-last t.no_enumerator u v = refl
names_enumerators-last (t.enumerator x y es) u v = ap (λ z. (x, false) ∷ z) (names_enumerators-last es u v)

names_parameters-last : (ps : t.Parameters) (ss : t.Specs) (d : t.Declarator) → names_parameters (parameters_then ps (t.parameter ss d t.no_parameter)) ≡ names_parameters ps ++ (names_specs ss ++ name_maybe (name_of d) (is_typedef ss))
names_parameters-last t.no_parameter ss d = ap (λ z. names_specs ss ++ z) (no_more (name_maybe (name_of d) (is_typedef ss)))
names_parameters-last (t.parameter us e ps) ss d =
    let named = name_maybe (name_of e) (is_typedef us) in
    ap (λ z. names_specs us ++ (named ++ z)) (names_parameters-last ps ss d)
    ∙ ap (λ z. names_specs us ++ z) (sym (joined named (names_parameters ps) (names_specs ss ++ name_maybe (name_of d) (is_typedef ss))))
    ∙ sym (joined (names_specs us) (named ++ names_parameters ps) (names_specs ss ++ name_maybe (name_of d) (is_typedef ss)))

or_true : (z : Bool) → (true || z) ≡ true
or_true z = refl

or_false : (z : Bool) → (z || false) ≡ z
or_false true = refl
or_false false = refl

is_typedef-then : (ss us : t.Specs) → is_typedef (specs_then ss us) ≡ (is_typedef ss || is_typedef us)
is_typedef-then t.no_spec us = refl
is_typedef-then (t.spec_word sw.Typedef ss) us = refl
is_typedef-then (t.spec_word _ ss) us = is_typedef-then ss us
is_typedef-then (t.typedef_name u ss) us = is_typedef-then ss us
is_typedef-then (t.struct_tag u ss) us = is_typedef-then ss us
is_typedef-then (t.struct_list tag ms ss) us = is_typedef-then ss us
is_typedef-then (t.enum_tag u ss) us = is_typedef-then ss us
is_typedef-then (t.enum_list tag es c ss) us = is_typedef-then ss us

typedef_word : (k : SpecWord) → is_typedef (t.spec_word k t.no_spec) ≡ is_typedef_word k
typedef_word sw.Typedef = refl
typedef_word _ = refl

spec_same : (ws vs : List SpecWord) (m n : ℕ) (y z : Bool) (a b : Names) → ws ≡ vs → m ≡ n → y ≡ z → a ≡ b → ◌≡◌ {A = SpecInfo} (record { words = ws; wholes = m; typedef = y; names = a }) (record { words = vs; wholes = n; typedef = z; names = b })
spec_same ws vs m n y z a b e f g h =
    ap (λ x. record { words = x; wholes = m; typedef = y; names = a }) e
    ∙ ap (λ x. record { words = vs; wholes = x; typedef = y; names = a }) f
    ∙ ap (λ x. record { words = vs; wholes = n; typedef = x; names = a }) g
    ∙ ap (λ x. record { words = vs; wholes = n; typedef = z; names = x }) h

-- a specifier that is a whole type by itself
whole_info : (ss us : t.Specs) (ns : Names) → specifier_words us ≡ [] → whole_types us ≡ 1 → is_typedef us ≡ false → names_specs us ≡ ns → ◌≡◌ {A = SpecInfo} (with_whole (info_of specs ss) ns) (info_of specs (specs_then ss us))
whole_info ss us ns e f g k =
    spec_same _ _ _ _ _ _ _ _
    (sym (words_then ss us ∙ ap (λ z. specifier_words ss ++ z) e ∙ no_more (specifier_words ss)))
    (omega (arith, whole_then ss us, f))
    (sym (is_typedef-then ss us ∙ ap (λ z. is_typedef ss || z) g ∙ or_false (is_typedef ss)))
    (sym (names_specs-then ss us ∙ ap (λ z. names_specs ss ++ z) k))

void_more : (us : t.Specs) (e : t.Declarator) (ps : t.Parameters) → has_parameters ps ≡ true → is_only_void (t.parameter us e ps) ≡ false
void_more (t.spec_word sw.Void t.no_spec) t.Nameless t.no_parameter h = absurd cc
void_more _ _ _ h = refl

and_false : (z : Bool) → (z && false) ≡ false
and_false true = refl
and_false false = refl

more_there : (ps : t.Parameters) (ss : t.Specs) (d : t.Declarator) → has_parameters (parameters_then ps (t.parameter ss d t.no_parameter)) ≡ true
more_there t.no_parameter ss d = refl
more_there (t.parameter us e ps) ss d = refl

some_whole : (n : ℕ) (z : Bool) → (z && (n + 1 == 0)) ≡ false
some_whole n z = ap (λ y. z && y) (not_zero (n + 1 == 0) refl) ∙ and_false z
  where
    not_zero : (y : Bool) → (n + 1 == 0) ≡ y → y ≡ false
    not_zero false e = refl
    not_zero true e = absurd (omega (arith, eqb-true (n + 1) 0 e))

only_void_one : (ss : t.Specs) (d : t.Declarator) → is_only_void (t.parameter ss d t.no_parameter) ≡ ((is_one_void (specifier_words ss) && (whole_types ss == 0)) && is_nameless d)
only_void_one t.no_spec d = refl
only_void_one (t.typedef_name u ss) d = sym (ap (λ z. z && is_nameless d) (some_whole (whole_types ss) (is_one_void (specifier_words ss))))
only_void_one (t.struct_tag u ss) d = sym (ap (λ z. z && is_nameless d) (some_whole (whole_types ss) (is_one_void (specifier_words ss))))
only_void_one (t.struct_list tag ms ss) d = sym (ap (λ z. z && is_nameless d) (some_whole (whole_types ss) (is_one_void (specifier_words ss))))
only_void_one (t.enum_tag u ss) d = sym (ap (λ z. z && is_nameless d) (some_whole (whole_types ss) (is_one_void (specifier_words ss))))
only_void_one (t.enum_list tag es c ss) d = sym (ap (λ z. z && is_nameless d) (some_whole (whole_types ss) (is_one_void (specifier_words ss))))
only_void_one (t.spec_word sw.Void t.no_spec) t.Nameless = refl
only_void_one (t.spec_word sw.Void t.no_spec) _ = refl
only_void_one (t.spec_word sw.Void (t.spec_word k ss)) d = refl
only_void_one (t.spec_word sw.Void (t.typedef_name u ss)) d = sym (ap (λ z. z && is_nameless d) (some_whole (whole_types ss) (is_one_void (sw.Void ∷ specifier_words ss))))
only_void_one (t.spec_word sw.Void (t.struct_tag u ss)) d = sym (ap (λ z. z && is_nameless d) (some_whole (whole_types ss) (is_one_void (sw.Void ∷ specifier_words ss))))
only_void_one (t.spec_word sw.Void (t.struct_list tag ms ss)) d = sym (ap (λ z. z && is_nameless d) (some_whole (whole_types ss) (is_one_void (sw.Void ∷ specifier_words ss))))
only_void_one (t.spec_word sw.Void (t.enum_tag u ss)) d = sym (ap (λ z. z && is_nameless d) (some_whole (whole_types ss) (is_one_void (sw.Void ∷ specifier_words ss))))
only_void_one (t.spec_word sw.Void (t.enum_list tag es c ss)) d = sym (ap (λ z. z && is_nameless d) (some_whole (whole_types ss) (is_one_void (sw.Void ∷ specifier_words ss))))
only_void_one (t.spec_word _ ss) d = refl

only_void_last : (ps : t.Parameters) (ss : t.Specs) (d : t.Declarator) → is_only_void (parameters_then ps (t.parameter ss d t.no_parameter)) ≡ (is_empty ps && ((is_one_void (specifier_words ss) && (whole_types ss == 0)) && is_nameless d))
only_void_last t.no_parameter ss d = only_void_one ss d
only_void_last (t.parameter us e ps) ss d = void_more us e (parameters_then ps (t.parameter ss d t.no_parameter)) (more_there ps ss d)

is_empty-last : (ps : t.Parameters) (ss : t.Specs) (d : t.Declarator) → is_empty (parameters_then ps (t.parameter ss d t.no_parameter)) ≡ false
is_empty-last t.no_parameter ss d = refl
is_empty-last (t.parameter us e ps) ss d = refl

own_names : (d : t.Declarator) (ps : t.Parameters) → (if is_plain_declarator d then names_parameters ps else names_parameters (own_parameters d)) ≡ names_parameters (if is_plain_declarator d then ps else own_parameters d)
own_names d ps = by_value (is_plain_declarator d)
  where
    by_value : (z : Bool) → (if z then names_parameters ps else names_parameters (own_parameters d)) ≡ names_parameters (if z then ps else own_parameters d)
    by_value true = refl
    by_value false = refl

-- ---- what is built

built_as : {T : Type 0} → (x y : Option T) (d : Depth) → x ≡ y → ◌≡◌ {A = Built T} (record { tree = x; reach = d }) (record { tree = y; reach = d })
built_as x y d e = ap (λ z. record { tree = z; reach = d }) e

-- the parts of a construct that passes no limit pass none
abbrev Strict : (Depth → Depth) → Type 0
Strict g = (a : Depth) → is_within (g a) ≡ true → is_within a ≡ true

is_none-true : {T : Type 0} → (o : Option T) → is_none o ≡ true → o ≡ None
is_none-true None e = refl
is_none-true (Some x) e = absurd cc

strict : (n : Nest) → Strict (λ a. nested n a)
strict n a h = ap is_none (parts_pass n a (is_none-true _ h))

over_fit : {A R : Type 0} → (f : A → R) (a : Depth) (x : A) → over f (fit a x) ≡ fit a (f x)
over_fit f a x = built_as _ _ a (by (is_within a))
  where
    by : (z : Bool) → option_map f (kept z (Some x)) ≡ kept z (Some (f x))
    by true = refl
    by false = refl

module _ {A R : Type 0} where
  fit1 : (g : Depth → Depth) (f : A → R) → Strict g → (a : Depth) (x : A) → one g f (fit a x) ≡ fit (g a) (f x)
  fit1 g f strict a x = built_as _ _ (g a) (by (is_within (g a)) (is_within a) (strict a))
    where
      by : (y z : Bool) → (y ≡ true → z ≡ true) → option_map f (kept y (kept z (Some x))) ≡ kept y (Some (f x))
      by false z h = refl
      by true true h = refl
      by true false h = let e = h refl in absurd cc

within-both : (a b : Depth) → is_within (both a b) ≡ (is_within a && is_within b)
within-both a b = ap is_none (passed-both all_room a b) ∙ by (passed_by all_room a) (passed_by all_room b)
  where
    by : (x y : Option LimitKind) → is_none (or_else x y) ≡ (is_none x && is_none y)
    by None y = refl
    by (Some k) y = refl

pair_fit : {A B : Type 0} → (a : Depth) (x : A) (b : Depth) (y : B) → pair (fit a x) (fit b y) ≡ fit (both a b) (x, y)
pair_fit a x b y = built_as _ _ (both a b) (by (is_within a) (is_within b) ∙ ap (λ z. kept z (Some (x, y))) (sym (within-both a b)))
  where
    by : (w z : Bool) → option_pair (kept w (Some x)) (kept z (Some y)) ≡ kept (w && z) (Some (x, y))
    by false z = refl
    by true false = refl
    by true true = refl

module _ {A B R : Type 0} where
  fit2 : (g : Depth → Depth) (f : A × B → R) → Strict g → (a : Depth) (x : A) (b : Depth) (y : B) → one g f (pair (fit a x) (fit b y)) ≡ fit (g (both a b)) (f (x, y))
  fit2 g f strict a x b y = ap (one g f) (pair_fit a x b y) ∙ fit1 g f strict (both a b) (x, y)

  over2 : (f : A × B → R) (a : Depth) (x : A) (b : Depth) (y : B) → over f (pair (fit a x) (fit b y)) ≡ fit (both a b) (f (x, y))
  over2 f a x b y = ap (over f) (pair_fit a x b y) ∙ over_fit f (both a b) (x, y)

fit3 : {A B C R : Type 0} → (g : Depth → Depth) (f : (A × B) × C → R) → Strict g → (a : Depth) (x : A) (b : Depth) (y : B) (c : Depth) (z : C) → one g f (pair (pair (fit a x) (fit b y)) (fit c z)) ≡ fit (g (both (both a b) c)) (f ((x, y), z))
fit3 g f strict a x b y c z = ap (λ q. one g f (pair q (fit c z))) (pair_fit a x b y) ∙ fit2 g f strict (both a b) (x, y) c z

over3 : {A B C R : Type 0} → (f : A × (B × C) → R) (a : Depth) (x : A) (b : Depth) (y : B) (c : Depth) (z : C) → over f (pair (fit a x) (pair (fit b y) (fit c z))) ≡ fit (both a (both b c)) (f (x, (y, z)))
over3 f a x b y c z = ap (λ q. over f (pair (fit a x) q)) (pair_fit b y c z) ∙ over2 f a x (both b c) (y, z)

abbrev depth_option : (sort : Sort) → Option (Tree sort) → Depth
depth_option sort None = flat
depth_option sort (Some x) = depth_of sort x

built_same : (sort : Sort) (o : Option (Tree sort)) → built_of sort (option_map (part sort) o) ≡ fit (depth_option sort o) o
built_same sort None = refl
built_same sort (Some x) = over_fit Some (depth_of sort x) x

maybe_depth : (o : Option t.Expression) → depth_option expr o ≡ depth_maybe o
maybe_depth None = refl
maybe_depth (Some x) = refl

start_depth : (o : Option t.Initialiser) → depth_option init o ≡ depth_start o
start_depth None = refl
start_depth (Some x) = refl

other_depth : (o : Option t.Statement) → depth_option stmt o ≡ depth_other (other_of o)
other_depth None = refl
other_depth (Some x) = refl

aimed_same : (g : Aimed Tree) → aimed (map_aimed part g) ≡ fit (depth_designator (designator_of g)) g
aimed_same AtNext = refl
aimed_same (AtMember u) = refl
aimed_same (AtIndex x) = over_fit AtIndex (depth x) x

same_part : (sort : Sort) (x y : Built (Tree sort)) (i j : Info sort) → x ≡ y → i ≡ j → make sort x i ≡ make sort y j
same_part sort x y i j e f = ap (λ z. make sort z i) e ∙ ap (make sort y) f

-- what is built, at an equal depth
at_depth : {T : Type 0} → (a b : Depth) (x : T) → a ≡ b → fit a x ≡ fit b x
at_depth a b x e = ap (λ z. fit z x) e

abbrev definition_of : List t.Item × ((t.Specs × t.Declarator) × t.Body) → List t.Item
definition_of p = p.0 ++ t.Definition p.1.0.0 p.1.0.1 p.1.1 ∷ []

abbrev for_of : ((t.ForStart × Option t.Expression) × Option t.Expression) × t.Statement → t.Statement
for_of p = t.For p.0.0.0 p.0.0.1 p.0.1 p.1

expression_strict : Strict in_expression
expression_strict = strict OfExpression

declarator_strict : Strict in_declarator
declarator_strict = strict OfDeclarator

statement_strict : Strict in_statement
statement_strict = strict OfStatement

pub parts_hom : Hom trees_built parts_built part
parts_hom = record {
  name = λ u. refl;
  number = λ u. refl;
  character = λ u. refl;
  strings = λ u us. refl;
  paren = λ x. same_part expr _ _ _ _ (fit1 in_expression (t.Paren) expression_strict (depth x) x) (refl);
  index = λ x y. same_part expr _ _ _ _ (fit2 in_expression (λ p. t.Index p.0 p.1) expression_strict (depth x) x (depth y) y) (refl);
  call = λ x y. same_part expr _ _ _ _ (fit2 in_expression (λ p. t.Call p.0 p.1) expression_strict (depth x) x (depths y) y) (refl);
  member_of = λ x o u. same_part expr _ _ _ _ (fit1 in_expression (λ z. t.Member z o u) expression_strict (depth x) x) (refl);
  postfix = λ x o. same_part expr _ _ _ _ (fit1 in_expression (λ z. t.Postfix z o) expression_strict (depth x) x) (refl);
  prefixed = λ o x. same_part expr _ _ _ _ (fit1 in_expression (t.Prefix o) expression_strict (depth x) x) (refl);
  unary = λ o x. same_part expr _ _ _ _ (fit1 in_expression (t.Unary o) expression_strict (depth x) x) (refl);
  sizeof_value = λ x. same_part expr _ _ _ _ (fit1 in_expression (t.SizeofValue) expression_strict (depth x) x) (refl);
  sizeof_type = λ x y. same_part expr _ _ _ _ (fit2 in_expression (λ p. t.SizeofType p.0 p.1) expression_strict (depth_specs x) x (depth_declarator y) y) (refl);
  cast = λ x y z. same_part expr _ _ _ _ (fit3 in_expression (λ p. t.Cast p.0.0 p.0.1 p.1) expression_strict (depth_specs x) x (depth_declarator y) y (depth z) z) (refl);
  infixed = λ o x y. same_part expr _ _ _ _ (fit2 in_expression (λ p. t.Infix o p.0 p.1) expression_strict (depth x) x (depth y) y) (refl);
  conditional = λ x y z. same_part expr _ _ _ _ (fit3 in_expression (λ p. t.Conditional p.0.0 p.0.1 p.1) expression_strict (depth x) x (depth y) y (depth z) z) (refl);
  assign = λ o x y. same_part expr _ _ _ _ (fit2 in_expression (λ p. t.Assign o p.0 p.1) expression_strict (depth x) x (depth y) y) (refl);
  comma = λ x y. same_part expr _ _ _ _ (fit2 in_expression (λ p. t.Comma p.0 p.1) expression_strict (depth x) x (depth y) y) (refl);
  no_arguments = refl;
  push = λ x y. same_part exprs _ _ _ _ (over2 (λ p. expressions_then p.0 (t.expression p.1 t.no_expression)) (depths x) x (depth y) y ∙ at_depth _ _ _ (sym (depths-last x y))) (refl);
  no_specs = refl;
  with_word = λ x k. same_part specs _ _ _ _ (over_fit (λ z. specs_then z (t.spec_word k t.no_spec)) (depth_specs x) x ∙ at_depth _ _ _ (sym (depth_specs-then x (t.spec_word k t.no_spec) ∙ both_flat (depth_specs x)))) (spec_same _ _ _ _ _ _ _ _ (sym (words_then x (t.spec_word k t.no_spec))) (omega (arith, whole_then x (t.spec_word k t.no_spec))) (sym (is_typedef-then x (t.spec_word k t.no_spec) ∙ ap (λ z. is_typedef x || z) (typedef_word k))) (sym (names_specs-then x (t.spec_word k t.no_spec) ∙ no_more (names_specs x))));
  with_typedef = λ x u. same_part specs _ _ _ _ (over_fit (λ z. specs_then z (t.typedef_name u t.no_spec)) (depth_specs x) x ∙ at_depth _ _ _ (sym (depth_specs-then x (t.typedef_name u t.no_spec) ∙ both_flat (depth_specs x)))) (whole_info x (t.typedef_name u t.no_spec) ([]) refl (omega arith) refl (refl));
  with_struct_tag = λ x u. same_part specs _ _ _ _ (over_fit (λ z. specs_then z (t.struct_tag u t.no_spec)) (depth_specs x) x ∙ at_depth _ _ _ (sym (depth_specs-then x (t.struct_tag u t.no_spec) ∙ both_flat (depth_specs x)))) (whole_info x (t.struct_tag u t.no_spec) ([]) refl (omega arith) refl (refl));
  with_struct = λ x u y. same_part specs _ _ _ _ (ap (λ z. over (λ p. specs_then p.0 (t.struct_list u p.1 t.no_spec)) (pair (fit (depth_specs x) x) z)) (fit1 in_declarator (λ z. z) declarator_strict (depth_members y) y) ∙ over2 (λ p. specs_then p.0 (t.struct_list u p.1 t.no_spec)) (depth_specs x) x (in_declarator (depth_members y)) y ∙ at_depth _ _ _ (sym (depth_specs-then x (t.struct_list u y t.no_spec) ∙ ap (both (depth_specs x)) (both_flat (in_declarator (depth_members y)))))) (whole_info x (t.struct_list u y t.no_spec) (names_members y) refl (omega arith) refl (no_more (names_members y)));
  with_enum_tag = λ x u. same_part specs _ _ _ _ (over_fit (λ z. specs_then z (t.enum_tag u t.no_spec)) (depth_specs x) x ∙ at_depth _ _ _ (sym (depth_specs-then x (t.enum_tag u t.no_spec) ∙ both_flat (depth_specs x)))) (whole_info x (t.enum_tag u t.no_spec) ([]) refl (omega arith) refl (refl));
  with_enum = λ x u y c. same_part specs _ _ _ _ (over2 (λ p. specs_then p.0 (t.enum_list u p.1 c t.no_spec)) (depth_specs x) x (depth_enumerators y) y ∙ at_depth _ _ _ (sym (depth_specs-then x (t.enum_list u y c t.no_spec) ∙ ap (both (depth_specs x)) (both_flat (depth_enumerators y))))) (whole_info x (t.enum_list u y c t.no_spec) (names_enumerators y) refl (omega arith) refl (no_more (names_enumerators y)));
  no_members = refl;
  push_member = λ x y z. same_part members _ _ _ _ (over3 (λ p. members_then p.0 (t.member p.1.0 p.1.1 t.no_member)) (depth_members x) x (depth_specs y) y (depth_declarators z) z ∙ at_depth _ _ _ (sym (depth_members-last x y z))) (sym (names_members-last x y z));
  no_declarators = refl;
  push_declarator = λ x y. same_part declarators _ _ _ _ (over2 (λ p. declarators_then p.0 (t.declarator p.1 t.no_declarator)) (depth_declarators x) x (depth_declarator y) y ∙ at_depth _ _ _ (sym (depth_declarators-last x y))) (refl);
  no_enumerators = refl;
  push_enumerator = λ x u. same_part enumerators _ _ _ _ (over_fit (λ z. enumerators_then z (t.enumerator u t.absent t.no_enumerator)) (depth_enumerators x) x ∙ at_depth _ _ _ (sym (depth_enumerators-last x u t.absent ∙ both_flat (depth_enumerators x)))) (sym (names_enumerators-last x u t.absent));
  push_valued = λ x u y. same_part enumerators _ _ _ _ (over2 (λ p. enumerators_then p.0 (t.enumerator u (t.present p.1) t.no_enumerator)) (depth_enumerators x) x (depth y) y ∙ at_depth _ _ _ (sym (depth_enumerators-last x u (t.present y)))) (sym (names_enumerators-last x u (t.present y)));
  nameless = refl;
  called = λ u. refl;
  group = λ x. same_part decl _ _ _ _ (fit1 in_declarator t.Group declarator_strict (depth_declarator x) x) (refl);
  pointer = λ qs x. same_part decl _ _ _ _ (fit1 in_declarator (t.Pointer qs) declarator_strict (depth_declarator x) x) (refl);
  array_open = λ x. same_part decl _ _ _ _ (fit1 in_declarator (λ z. t.Array z t.absent) declarator_strict (depth_declarator x) x ∙ at_depth _ _ _ (ap in_declarator (sym (both_flat (depth_declarator x))))) (refl);
  array = λ x y. same_part decl _ _ _ _ (fit2 in_declarator (λ p. t.Array p.0 (t.present p.1)) declarator_strict (depth_declarator x) x (depth y) y) (refl);
  function = λ x k y. same_part decl _ _ _ _ (fit2 in_declarator (λ p. t.Function p.0 k p.1) declarator_strict (depth_declarator x) x (depth_parameters y) y) (ap (λ z. record { nameless = false; name = name_of x; plain = false; own = z }) (own_names x y));
  no_parameters = refl;
  push_parameter = λ x y z. same_part parameters _ _ _ _ (over3 (λ p. parameters_then p.0 (t.parameter p.1.0 p.1.1 t.no_parameter)) (depth_parameters x) x (depth_specs y) y (depth_declarator z) z ∙ at_depth _ _ _ (sym (depth_parameters-last x y z))) (ap (λ v. record { empty = v; only_void = is_empty x && ((is_one_void (specifier_words y) && (whole_types y == 0)) && is_nameless z); names = names_parameters x ++ (names_specs y ++ name_maybe (name_of z) (is_typedef y)) }) (sym (is_empty-last x y z)) ∙ ap (λ v. record { empty = is_empty (parameters_then x (t.parameter y z t.no_parameter)); only_void = v; names = names_parameters x ++ (names_specs y ++ name_maybe (name_of z) (is_typedef y)) }) (sym (only_void_last x y z)) ∙ ap (λ v. record { empty = is_empty (parameters_then x (t.parameter y z t.no_parameter)); only_void = is_only_void (parameters_then x (t.parameter y z t.no_parameter)); names = v }) (sym (names_parameters-last x y z)));
  value_init = λ x. same_part init _ _ _ _ (over_fit t.Value (depth x) x) (refl);
  braces = λ x c. same_part init _ _ _ _ (fit1 in_declarator (λ z. t.Braces z c) declarator_strict (depth_items x) x) (refl);
  no_inits = refl;
  push_init = λ x g y. same_part inits _ _ _ _ (ap (λ q. over (λ p. inits_then p.0 (t.item (designator_of p.1.0) p.1.1 t.no_item)) (pair (fit (depth_items x) x) (pair q (fit (depth_initialiser y) y)))) (aimed_same g) ∙ over3 (λ p. inits_then p.0 (t.item (designator_of p.1.0) p.1.1 t.no_item)) (depth_items x) x (depth_designator (designator_of g)) g (depth_initialiser y) y ∙ at_depth _ _ _ (sym (depth_items-last x (designator_of g) y))) (refl);
  no_init_declarators = refl;
  push_init_declarator = λ x y v. same_part init_declarators _ _ _ _ (ap (λ q. over (λ p. p.0 ++ record { declarator = p.1.0; start = p.1.1 } ∷ []) (pair (fit (depth_init_declarators x) x) (pair (fit (depth_declarator y) y) q))) (built_same init v ∙ at_depth _ _ _ (start_depth v)) ∙ over3 (λ p. p.0 ++ record { declarator = p.1.0; start = p.1.1 } ∷ []) (depth_init_declarators x) x (depth_declarator y) y (depth_start v) v ∙ at_depth _ _ _ (sym (depth_inits-last x (record { declarator = y; start = v })))) (refl);
  declare = λ x y. same_part declaration _ _ _ _ (over2 (λ p. t.Declare p.0 p.1) (depth_specs x) x (depth_init_declarators y) y) (refl);
  assert = λ x u. same_part declaration _ _ _ _ (over_fit (λ z. t.Assert z u) (depth x) x) (refl);
  start_declaration = λ x. same_part for_start _ _ _ _ (over_fit t.StartDeclaration (depth_declaration x) x) (refl);
  start_value = λ x. same_part for_start _ _ _ _ (ap (over t.StartValue) (built_same expr x ∙ at_depth _ _ _ (maybe_depth x)) ∙ over_fit t.StartValue (depth_maybe x) x) (refl);
  block = λ x. same_part stmt _ _ _ _ (fit1 in_statement t.Block statement_strict (depth_body x) x) (refl);
  run = λ x. same_part stmt _ _ _ _ (ap (one in_statement t.Run) (built_same expr x ∙ at_depth _ _ _ (maybe_depth x)) ∙ fit1 in_statement t.Run statement_strict (depth_maybe x) x) (refl);
  if_else = λ x y. same_part stmt _ _ _ _ (ap (λ q. one in_statement (λ p. t.If p.0 (other_of p.1)) (pair (fit (depth_branches x) x) q)) (built_same stmt y ∙ at_depth _ _ _ (other_depth y)) ∙ fit2 in_statement (λ p. t.If p.0 (other_of p.1)) statement_strict (depth_branches x) x (depth_other (other_of y)) y) (refl);
  while_loop = λ x y. same_part stmt _ _ _ _ (fit2 in_statement (λ p. t.While p.0 p.1) statement_strict (depth x) x (depth_statement y) y) (refl);
  do_loop = λ x y. same_part stmt _ _ _ _ (fit2 in_statement (λ p. t.Do p.0 p.1) statement_strict (depth_statement x) x (depth y) y) (refl);
  for_loop = λ x y z v. same_part stmt _ _ _ _ (ap (λ q. one in_statement for_of (pair (pair (pair (fit (depth_for_start x) x) q) (built_of expr (option_map (part expr) z))) (fit (depth_statement v) v))) (built_same expr y ∙ at_depth _ _ _ (maybe_depth y)) ∙ ap (λ q. one in_statement for_of (pair (pair (pair (fit (depth_for_start x) x) (fit (depth_maybe y) y)) q) (fit (depth_statement v) v))) (built_same expr z ∙ at_depth _ _ _ (maybe_depth z)) ∙ ap (λ q. one in_statement for_of (pair (pair q (fit (depth_maybe z) z)) (fit (depth_statement v) v))) (pair_fit (depth_for_start x) x (depth_maybe y) y) ∙ fit3 in_statement for_of statement_strict (both (depth_for_start x) (depth_maybe y)) (x, y) (depth_maybe z) z (depth_statement v) v) (refl);
  switch = λ x y. same_part stmt _ _ _ _ (fit2 in_statement (λ p. t.Switch p.0 p.1) statement_strict (depth x) x (depth_body y) y) (refl);
  break = refl;
  continue = refl;
  return = λ x. same_part stmt _ _ _ _ (ap (one in_statement t.Return) (built_same expr x ∙ at_depth _ _ _ (maybe_depth x)) ∙ fit1 in_statement t.Return statement_strict (depth_maybe x) x) (refl);
  no_branches = refl;
  push_branch = λ x y z. same_part branches _ _ _ _ (over3 (λ p. branches_then p.0 (t.branch p.1.0 p.1.1 t.no_branch)) (depth_branches x) x (depth y) y (depth_statement z) z ∙ at_depth _ _ _ (sym (depth_branches-last x y z))) (refl);
  no_body = refl;
  push_case = λ x y. same_part body _ _ _ _ (over2 (λ p. body_then p.0 (t.case_label p.1 t.no_part)) (depth_body x) x (depth y) y ∙ at_depth _ _ _ (sym (depth_body-then x (t.case_label y t.no_part) ∙ ap (both (depth_body x)) (both_flat (depth y))))) (refl);
  push_default = λ x. same_part body _ _ _ _ (over_fit (λ z. body_then z (t.default_label t.no_part)) (depth_body x) x ∙ at_depth _ _ _ (sym (depth_body-then x (t.default_label t.no_part) ∙ both_flat (depth_body x)))) (refl);
  push_declared = λ x y. same_part body _ _ _ _ (over2 (λ p. body_then p.0 (t.declared p.1 t.no_part)) (depth_body x) x (depth_declaration y) y ∙ at_depth _ _ _ (sym (depth_body-then x (t.declared y t.no_part) ∙ ap (both (depth_body x)) (both_flat (depth_declaration y))))) (refl);
  push_stated = λ x y. same_part body _ _ _ _ (over2 (λ p. body_then p.0 (t.stated p.1 t.no_part)) (depth_body x) x (depth_statement y) y ∙ at_depth _ _ _ (sym (depth_body-then x (t.stated y t.no_part) ∙ ap (both (depth_body x)) (both_flat (depth_statement y))))) (refl);
  push_definition = λ x y z v. same_part items _ _ _ _ (ap (λ q. over definition_of (pair (fit (depth_unit x) x) (pair q (one in_statement (λ c. c) (fit (depth_body v) v))))) (pair_fit (depth_specs y) y (depth_declarator z) z) ∙ ap (λ q. over definition_of (pair (fit (depth_unit x) x) (pair (fit (both (depth_specs y) (depth_declarator z)) (y, z)) q))) (fit1 in_statement (λ c. c) statement_strict (depth_body v) v) ∙ over3 definition_of (depth_unit x) x (both (depth_specs y) (depth_declarator z)) (y, z) (in_statement (depth_body v)) v ∙ at_depth _ _ _ (sym (depth_unit-last x (t.Definition y z v)))) (refl);
  push_outside = λ x y. same_part items _ _ _ _ (over2 (λ p. p.0 ++ t.Outside p.1 ∷ []) (depth_unit x) x (depth_declaration y) y ∙ at_depth _ _ _ (sym (depth_unit-last x (t.Outside y)))) (refl);
  push_lone = λ x. same_part items _ _ _ _ (over_fit (λ z. z ++ t.Lone ∷ []) (depth_unit x) x ∙ at_depth _ _ _ (sym (depth_unit-last x t.Lone ∙ both_flat (depth_unit x)))) (refl);
  level_of = λ x. refl;
  forms_type = λ x. refl;
  has_type = λ x. refl;
  declares_types = λ x. refl;
  name_in = λ x. refl;
  only_void = λ x. refl;
  inside = λ x scope. sym (parameters_names (own_parameters x) scope);
}
