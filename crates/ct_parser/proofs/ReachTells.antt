-- What is reached in a tree tells which limit it passes first.
use Rattle.std.proofs.Common.{◌≡◌, zero, suc, List, [], ◌∷◌, Option, Some, None, refl, ap, ◌∙◌, arith}
use Rattle.ct_base.specs.declared.limits.LimitKind.{LimitKind}
use Rattle.ct_syntax.specs.Depths.{Room, Left, in_expression as enter_expression, in_declarator as enter_declarator, in_statement as enter_statement, or_else, passed, passed_list, passed_optional, passed_specs, passed_members, passed_enumerators, passed_declarators, passed_declarator, passed_parameters, passed_designator, passed_initialiser, passed_items, passed_start, passed_init_declarators, passed_declaration, passed_maybe, passed_for_start, passed_statement, passed_branches, passed_other, passed_body, passed_item, passed_unit}
use Rattle.ct_parser_parts.specs.declared.reach.Nest.TheVariants.{Expression as OfExpression, Declarator as OfDeclarator, Statement as OfStatement}
use Rattle.ct_parser_parts.specs.Reach.{Depth, flat, both, in_expression, in_declarator, in_statement, passed_by, depth, depths, depth_optional, depth_specs, depth_members, depth_enumerators, depth_declarators, depth_declarator, depth_parameters, depth_designator, depth_initialiser, depth_items, depth_start, depth_init_declarators, depth_declaration, depth_maybe, depth_for_start, depth_statement, depth_branches, depth_other, depth_body, depth_item, depth_unit}
use Rattle.ct_parser.proofs.ReachLaws.{InRoom, passed-both, passed-nested}
use Rattle.ct_syntax.specs.Trees.{Expression, Name, Number, Character, Strings, Paren, Index, Call, Member, Postfix, Prefix, Unary, SizeofValue, SizeofType, Cast, Infix, Conditional, Assign, Comma}
use Rattle.ct_syntax.specs.Trees.{Expressions, no_expression, expression, Optional, absent, present}
use Rattle.ct_syntax.specs.Trees.{Specs, no_spec, spec_word, typedef_name, struct_tag, struct_list, enum_tag, enum_list, Members, no_member, member, Enumerators, no_enumerator, enumerator}
use Rattle.ct_syntax.specs.Trees.{Declarators, no_declarator, declarator, Declarator, Nameless, Called, Group, Pointer, Array, Function, Parameters, no_parameter, parameter}
use Rattle.ct_syntax.specs.Trees.{Designator, Next, OfMember, OfIndex, Initialiser, Value, Braces, InitialiserItems, no_item, item, InitDeclarator, Declaration, Declare, Assert, ForStart, StartDeclaration, StartValue}
use Rattle.ct_syntax.specs.Trees.{Statement, Block, Run, If, While, Do, For, Switch, Break, Continue, Return, Branches, no_branch, branch, Other, no_else, else_do, Body, no_part, case_label, default_label, declared, stated, Item, Definition, Outside, Lone}

both_is : (r : Room) (a b : Depth) (f g : Option LimitKind) → passed_by r a ≡ f → passed_by r b ≡ g → passed_by r (both a b) ≡ or_else f g
both_is r a b f g h k = passed-both r a b ∙ ap (λ z. or_else z (passed_by r b)) h ∙ ap (or_else f) k

in_an_expression : (r : Room) → InRoom r → (a : Depth) (f : Room → Option LimitKind) → ((p : Room) → InRoom p → passed_by p a ≡ f p) → passed_by r (in_expression a) ≡ enter_expression r f
in_an_expression (Left zero d s) h a f k = passed-nested OfExpression a (Left zero d s) h
in_an_expression (Left (suc e) d s) h a f k = passed-nested OfExpression a (Left (suc e) d s) h ∙ k (Left e d s) (omega (arith, h.0), h.1, h.2)

in_a_declarator : (r : Room) → InRoom r → (a : Depth) (f : Room → Option LimitKind) → ((p : Room) → InRoom p → passed_by p a ≡ f p) → passed_by r (in_declarator a) ≡ enter_declarator r f
in_a_declarator (Left e zero s) h a f k = passed-nested OfDeclarator a (Left e zero s) h
in_a_declarator (Left e (suc d) s) h a f k = passed-nested OfDeclarator a (Left e (suc d) s) h ∙ k (Left e d s) (h.0, omega (arith, h.1), h.2)

in_a_statement : (r : Room) → InRoom r → (a : Depth) (f : Room → Option LimitKind) → ((p : Room) → InRoom p → passed_by p a ≡ f p) → passed_by r (in_statement a) ≡ enter_statement r f
in_a_statement (Left e d zero) h a f k = passed-nested OfStatement a (Left e d zero) h
in_a_statement (Left e d (suc s)) h a f k = passed-nested OfStatement a (Left e d (suc s)) h ∙ k (Left e d s) (h.0, h.1, omega (arith, h.2))

mutual
  tells_depth : (x : Expression) (r : Room) → InRoom r → passed_by r (depth x) ≡ passed r x
  tells_depth (Name t) r h = in_an_expression r h flat (λ q. None) (λ p k. refl)
  tells_depth (Number t) r h = in_an_expression r h flat (λ q. None) (λ p k. refl)
  tells_depth (Character t) r h = in_an_expression r h flat (λ q. None) (λ p k. refl)
  tells_depth (Strings t ts) r h = in_an_expression r h flat (λ q. None) (λ p k. refl)
  tells_depth (Paren x) r h = in_an_expression r h (depth x) (λ q. (passed q x)) (λ p k. tells_depth x p k)
  tells_depth (Index x i) r h = in_an_expression r h (both (depth x) (depth i)) (λ q. (or_else (passed q x) (passed q i))) (λ p k. both_is p (depth x) (depth i) (passed p x) (passed p i) (tells_depth x p k) (tells_depth i p k))
  tells_depth (Call f xs) r h = in_an_expression r h (both (depth f) (depths xs)) (λ q. (or_else (passed q f) (passed_list q xs))) (λ p k. both_is p (depth f) (depths xs) (passed p f) (passed_list p xs) (tells_depth f p k) (tells_depths xs p k))
  tells_depth (Member x o t) r h = in_an_expression r h (depth x) (λ q. (passed q x)) (λ p k. tells_depth x p k)
  tells_depth (Postfix x o) r h = in_an_expression r h (depth x) (λ q. (passed q x)) (λ p k. tells_depth x p k)
  tells_depth (Prefix o x) r h = in_an_expression r h (depth x) (λ q. (passed q x)) (λ p k. tells_depth x p k)
  tells_depth (Unary o x) r h = in_an_expression r h (depth x) (λ q. (passed q x)) (λ p k. tells_depth x p k)
  tells_depth (SizeofValue x) r h = in_an_expression r h (depth x) (λ q. (passed q x)) (λ p k. tells_depth x p k)
  tells_depth (SizeofType ss d) r h = in_an_expression r h (both (depth_specs ss) (depth_declarator d)) (λ q. (or_else (passed_specs q ss) (passed_declarator q d))) (λ p k. both_is p (depth_specs ss) (depth_declarator d) (passed_specs p ss) (passed_declarator p d) (tells_depth_specs ss p k) (tells_depth_declarator d p k))
  tells_depth (Cast ss d x) r h = in_an_expression r h (both (both (depth_specs ss) (depth_declarator d)) (depth x)) (λ q. (or_else (or_else (passed_specs q ss) (passed_declarator q d)) (passed q x))) (λ p k. both_is p (both (depth_specs ss) (depth_declarator d)) (depth x) (or_else (passed_specs p ss) (passed_declarator p d)) (passed p x) (both_is p (depth_specs ss) (depth_declarator d) (passed_specs p ss) (passed_declarator p d) (tells_depth_specs ss p k) (tells_depth_declarator d p k)) (tells_depth x p k))
  tells_depth (Infix o x y) r h = in_an_expression r h (both (depth x) (depth y)) (λ q. (or_else (passed q x) (passed q y))) (λ p k. both_is p (depth x) (depth y) (passed p x) (passed p y) (tells_depth x p k) (tells_depth y p k))
  tells_depth (Conditional c x y) r h = in_an_expression r h (both (both (depth c) (depth x)) (depth y)) (λ q. (or_else (or_else (passed q c) (passed q x)) (passed q y))) (λ p k. both_is p (both (depth c) (depth x)) (depth y) (or_else (passed p c) (passed p x)) (passed p y) (both_is p (depth c) (depth x) (passed p c) (passed p x) (tells_depth c p k) (tells_depth x p k)) (tells_depth y p k))
  tells_depth (Assign o x y) r h = in_an_expression r h (both (depth x) (depth y)) (λ q. (or_else (passed q x) (passed q y))) (λ p k. both_is p (depth x) (depth y) (passed p x) (passed p y) (tells_depth x p k) (tells_depth y p k))
  tells_depth (Comma x y) r h = in_an_expression r h (both (depth x) (depth y)) (λ q. (or_else (passed q x) (passed q y))) (λ p k. both_is p (depth x) (depth y) (passed p x) (passed p y) (tells_depth x p k) (tells_depth y p k))

  tells_depths : (x : Expressions) (r : Room) → InRoom r → passed_by r (depths x) ≡ passed_list r x
  tells_depths no_expression r h = refl
  tells_depths (expression x xs) r h = both_is r (depth x) (depths xs) (passed r x) (passed_list r xs) (tells_depth x r h) (tells_depths xs r h)

  tells_depth_optional : (x : Optional) (r : Room) → InRoom r → passed_by r (depth_optional x) ≡ passed_optional r x
  tells_depth_optional absent r h = refl
  tells_depth_optional (present x) r h = tells_depth x r h

  tells_depth_specs : (x : Specs) (r : Room) → InRoom r → passed_by r (depth_specs x) ≡ passed_specs r x
  tells_depth_specs no_spec r h = refl
  tells_depth_specs (spec_word k ss) r h = tells_depth_specs ss r h
  tells_depth_specs (typedef_name t ss) r h = tells_depth_specs ss r h
  tells_depth_specs (struct_tag t ss) r h = tells_depth_specs ss r h
  tells_depth_specs (struct_list tag ms ss) r h = both_is r (in_declarator (depth_members ms)) (depth_specs ss) (enter_declarator r (λ q. (passed_members q ms))) (passed_specs r ss) (in_a_declarator r h (depth_members ms) (λ q. (passed_members q ms)) (λ p k. tells_depth_members ms p k)) (tells_depth_specs ss r h)
  tells_depth_specs (enum_tag t ss) r h = tells_depth_specs ss r h
  tells_depth_specs (enum_list tag es comma ss) r h = both_is r (depth_enumerators es) (depth_specs ss) (passed_enumerators r es) (passed_specs r ss) (tells_depth_enumerators es r h) (tells_depth_specs ss r h)

  tells_depth_members : (x : Members) (r : Room) → InRoom r → passed_by r (depth_members x) ≡ passed_members r x
  tells_depth_members no_member r h = refl
  tells_depth_members (member ss ds ms) r h = both_is r (both (depth_specs ss) (depth_declarators ds)) (depth_members ms) (or_else (passed_specs r ss) (passed_declarators r ds)) (passed_members r ms) (both_is r (depth_specs ss) (depth_declarators ds) (passed_specs r ss) (passed_declarators r ds) (tells_depth_specs ss r h) (tells_depth_declarators ds r h)) (tells_depth_members ms r h)

  tells_depth_enumerators : (x : Enumerators) (r : Room) → InRoom r → passed_by r (depth_enumerators x) ≡ passed_enumerators r x
  tells_depth_enumerators no_enumerator r h = refl
  tells_depth_enumerators (enumerator t v es) r h = both_is r (depth_optional v) (depth_enumerators es) (passed_optional r v) (passed_enumerators r es) (tells_depth_optional v r h) (tells_depth_enumerators es r h)

  tells_depth_declarators : (x : Declarators) (r : Room) → InRoom r → passed_by r (depth_declarators x) ≡ passed_declarators r x
  tells_depth_declarators no_declarator r h = refl
  tells_depth_declarators (declarator d ds) r h = both_is r (depth_declarator d) (depth_declarators ds) (passed_declarator r d) (passed_declarators r ds) (tells_depth_declarator d r h) (tells_depth_declarators ds r h)

  tells_depth_declarator : (x : Declarator) (r : Room) → InRoom r → passed_by r (depth_declarator x) ≡ passed_declarator r x
  tells_depth_declarator Nameless r h = refl
  tells_depth_declarator (Called t) r h = refl
  tells_depth_declarator (Group d) r h = in_a_declarator r h (depth_declarator d) (λ q. (passed_declarator q d)) (λ p k. tells_depth_declarator d p k)
  tells_depth_declarator (Pointer qs d) r h = in_a_declarator r h (depth_declarator d) (λ q. (passed_declarator q d)) (λ p k. tells_depth_declarator d p k)
  tells_depth_declarator (Array d size) r h = in_a_declarator r h (both (depth_declarator d) (depth_optional size)) (λ q. (or_else (passed_declarator q d) (passed_optional q size))) (λ p k. both_is p (depth_declarator d) (depth_optional size) (passed_declarator p d) (passed_optional p size) (tells_depth_declarator d p k) (tells_depth_optional size p k))
  tells_depth_declarator (Function d f ps) r h = in_a_declarator r h (both (depth_declarator d) (depth_parameters ps)) (λ q. (or_else (passed_declarator q d) (passed_parameters q ps))) (λ p k. both_is p (depth_declarator d) (depth_parameters ps) (passed_declarator p d) (passed_parameters p ps) (tells_depth_declarator d p k) (tells_depth_parameters ps p k))

  tells_depth_parameters : (x : Parameters) (r : Room) → InRoom r → passed_by r (depth_parameters x) ≡ passed_parameters r x
  tells_depth_parameters no_parameter r h = refl
  tells_depth_parameters (parameter ss d ps) r h = both_is r (both (depth_specs ss) (depth_declarator d)) (depth_parameters ps) (or_else (passed_specs r ss) (passed_declarator r d)) (passed_parameters r ps) (both_is r (depth_specs ss) (depth_declarator d) (passed_specs r ss) (passed_declarator r d) (tells_depth_specs ss r h) (tells_depth_declarator d r h)) (tells_depth_parameters ps r h)

pub tells_depth_designator : (x : Designator) (r : Room) → InRoom r → passed_by r (depth_designator x) ≡ passed_designator r x
tells_depth_designator Next r h = refl
tells_depth_designator (OfMember t) r h = refl
tells_depth_designator (OfIndex x) r h = tells_depth x r h

mutual
  tells_depth_initialiser : (x : Initialiser) (r : Room) → InRoom r → passed_by r (depth_initialiser x) ≡ passed_initialiser r x
  tells_depth_initialiser (Value x) r h = tells_depth x r h
  tells_depth_initialiser (Braces is comma) r h = in_a_declarator r h (depth_items is) (λ q. (passed_items q is)) (λ p k. tells_depth_items is p k)

  tells_depth_items : (x : InitialiserItems) (r : Room) → InRoom r → passed_by r (depth_items x) ≡ passed_items r x
  tells_depth_items no_item r h = refl
  tells_depth_items (item g v is) r h = both_is r (both (depth_designator g) (depth_initialiser v)) (depth_items is) (or_else (passed_designator r g) (passed_initialiser r v)) (passed_items r is) (both_is r (depth_designator g) (depth_initialiser v) (passed_designator r g) (passed_initialiser r v) (tells_depth_designator g r h) (tells_depth_initialiser v r h)) (tells_depth_items is r h)

pub tells_depth_start : (x : Option Initialiser) (r : Room) → InRoom r → passed_by r (depth_start x) ≡ passed_start r x
tells_depth_start None r h = refl
tells_depth_start (Some v) r h = tells_depth_initialiser v r h

pub tells_depth_init_declarators : (x : List InitDeclarator) (r : Room) → InRoom r → passed_by r (depth_init_declarators x) ≡ passed_init_declarators r x
tells_depth_init_declarators [] r h = refl
tells_depth_init_declarators (d ∷ ds) r h = both_is r (both (depth_declarator d.declarator) (depth_start d.start)) (depth_init_declarators ds) (or_else (passed_declarator r d.declarator) (passed_start r d.start)) (passed_init_declarators r ds) (both_is r (depth_declarator d.declarator) (depth_start d.start) (passed_declarator r d.declarator) (passed_start r d.start) (tells_depth_declarator d.declarator r h) (tells_depth_start d.start r h)) (tells_depth_init_declarators ds r h)

pub tells_depth_declaration : (x : Declaration) (r : Room) → InRoom r → passed_by r (depth_declaration x) ≡ passed_declaration r x
tells_depth_declaration (Declare ss ds) r h = both_is r (depth_specs ss) (depth_init_declarators ds) (passed_specs r ss) (passed_init_declarators r ds) (tells_depth_specs ss r h) (tells_depth_init_declarators ds r h)
tells_depth_declaration (Assert x t) r h = tells_depth x r h

pub tells_depth_maybe : (x : Option Expression) (r : Room) → InRoom r → passed_by r (depth_maybe x) ≡ passed_maybe r x
tells_depth_maybe None r h = refl
tells_depth_maybe (Some x) r h = tells_depth x r h

pub tells_depth_for_start : (x : ForStart) (r : Room) → InRoom r → passed_by r (depth_for_start x) ≡ passed_for_start r x
tells_depth_for_start (StartDeclaration d) r h = tells_depth_declaration d r h
tells_depth_for_start (StartValue x) r h = tells_depth_maybe x r h

-- The branches of one `if` are at one level.
mutual
  tells_depth_statement : (x : Statement) (r : Room) → InRoom r → passed_by r (depth_statement x) ≡ passed_statement r x
  tells_depth_statement (Block b) r h = in_a_statement r h (depth_body b) (λ q. (passed_body q b)) (λ p k. tells_depth_body b p k)
  tells_depth_statement (Run x) r h = in_a_statement r h (depth_maybe x) (λ q. (passed_maybe q x)) (λ p k. tells_depth_maybe x p k)
  tells_depth_statement (If bs o) r h = in_a_statement r h (both (depth_branches bs) (depth_other o)) (λ q. (or_else (passed_branches q bs) (passed_other q o))) (λ p k. both_is p (depth_branches bs) (depth_other o) (passed_branches p bs) (passed_other p o) (tells_depth_branches bs p k) (tells_depth_other o p k))
  tells_depth_statement (While c s) r h = in_a_statement r h (both (depth c) (depth_statement s)) (λ q. (or_else (passed q c) (passed_statement q s))) (λ p k. both_is p (depth c) (depth_statement s) (passed p c) (passed_statement p s) (tells_depth c p k) (tells_depth_statement s p k))
  tells_depth_statement (Do s c) r h = in_a_statement r h (both (depth_statement s) (depth c)) (λ q. (or_else (passed_statement q s) (passed q c))) (λ p k. both_is p (depth_statement s) (depth c) (passed_statement p s) (passed p c) (tells_depth_statement s p k) (tells_depth c p k))
  tells_depth_statement (For f c e s) r h = in_a_statement r h (both (both (both (depth_for_start f) (depth_maybe c)) (depth_maybe e)) (depth_statement s)) (λ q. (or_else (or_else (or_else (passed_for_start q f) (passed_maybe q c)) (passed_maybe q e)) (passed_statement q s))) (λ p k. both_is p (both (both (depth_for_start f) (depth_maybe c)) (depth_maybe e)) (depth_statement s) (or_else (or_else (passed_for_start p f) (passed_maybe p c)) (passed_maybe p e)) (passed_statement p s) (both_is p (both (depth_for_start f) (depth_maybe c)) (depth_maybe e) (or_else (passed_for_start p f) (passed_maybe p c)) (passed_maybe p e) (both_is p (depth_for_start f) (depth_maybe c) (passed_for_start p f) (passed_maybe p c) (tells_depth_for_start f p k) (tells_depth_maybe c p k)) (tells_depth_maybe e p k)) (tells_depth_statement s p k))
  tells_depth_statement (Switch x b) r h = in_a_statement r h (both (depth x) (depth_body b)) (λ q. (or_else (passed q x) (passed_body q b))) (λ p k. both_is p (depth x) (depth_body b) (passed p x) (passed_body p b) (tells_depth x p k) (tells_depth_body b p k))
  tells_depth_statement Break r h = in_a_statement r h flat (λ q. None) (λ p k. refl)
  tells_depth_statement Continue r h = in_a_statement r h flat (λ q. None) (λ p k. refl)
  tells_depth_statement (Return x) r h = in_a_statement r h (depth_maybe x) (λ q. (passed_maybe q x)) (λ p k. tells_depth_maybe x p k)

  tells_depth_branches : (x : Branches) (r : Room) → InRoom r → passed_by r (depth_branches x) ≡ passed_branches r x
  tells_depth_branches no_branch r h = refl
  tells_depth_branches (branch c s bs) r h = both_is r (both (depth c) (depth_statement s)) (depth_branches bs) (or_else (passed r c) (passed_statement r s)) (passed_branches r bs) (both_is r (depth c) (depth_statement s) (passed r c) (passed_statement r s) (tells_depth c r h) (tells_depth_statement s r h)) (tells_depth_branches bs r h)

  tells_depth_other : (x : Other) (r : Room) → InRoom r → passed_by r (depth_other x) ≡ passed_other r x
  tells_depth_other no_else r h = refl
  tells_depth_other (else_do s) r h = tells_depth_statement s r h

  tells_depth_body : (x : Body) (r : Room) → InRoom r → passed_by r (depth_body x) ≡ passed_body r x
  tells_depth_body no_part r h = refl
  tells_depth_body (case_label x b) r h = both_is r (depth x) (depth_body b) (passed r x) (passed_body r b) (tells_depth x r h) (tells_depth_body b r h)
  tells_depth_body (default_label b) r h = tells_depth_body b r h
  tells_depth_body (declared d b) r h = both_is r (depth_declaration d) (depth_body b) (passed_declaration r d) (passed_body r b) (tells_depth_declaration d r h) (tells_depth_body b r h)
  tells_depth_body (stated s b) r h = both_is r (depth_statement s) (depth_body b) (passed_statement r s) (passed_body r b) (tells_depth_statement s r h) (tells_depth_body b r h)

-- The block of a function is itself a statement.
pub tells_depth_item : (x : Item) (r : Room) → InRoom r → passed_by r (depth_item x) ≡ passed_item r x
tells_depth_item (Definition ss d b) r h = both_is r (both (depth_specs ss) (depth_declarator d)) (in_statement (depth_body b)) (or_else (passed_specs r ss) (passed_declarator r d)) (enter_statement r (λ q. (passed_body q b))) (both_is r (depth_specs ss) (depth_declarator d) (passed_specs r ss) (passed_declarator r d) (tells_depth_specs ss r h) (tells_depth_declarator d r h)) (in_a_statement r h (depth_body b) (λ q. (passed_body q b)) (λ p k. tells_depth_body b p k))
tells_depth_item (Outside d) r h = tells_depth_declaration d r h
tells_depth_item Lone r h = refl

pub tells_depth_unit : (x : List Item) (r : Room) → InRoom r → passed_by r (depth_unit x) ≡ passed_unit r x
tells_depth_unit [] r h = refl
tells_depth_unit (i ∷ is) r h = both_is r (depth_item i) (depth_unit is) (passed_item r i) (passed_unit r is) (tells_depth_item i r h) (tells_depth_unit is r h)
