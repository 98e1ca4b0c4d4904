-- A word where a part begins.
use Rattle.std.proofs.Common.{◌≡◌, Bool, true, false, if◌then◌else◌, List, [], ◌∷◌, Some, refl, ap, ◌∙◌}
use Rattle.ct_syntax.specs.declared.words.MemberOp.TheVariants as op
use Rattle.ct_syntax.specs.declared.words.Mark.TheVariants as k
use Rattle.ct_syntax.specs.declared.words.Keyword.TheVariants as w
use Rattle.ct_syntax.specs.Words.{Word, Sign, Key}
use Rattle.ct_syntax.specs.Scopes.{Scope}
use Rattle.ct_syntax.specs.Grammar.{begins_specs}
use Rattle.ct_grammar_machine.specs.Algebra.{branches, inits, AtNext}
use Rattle.ct_parser_parts.specs.Parts.{Part, parts_built}
use Rattle.ct_parser_state.specs.Code.{PartStack, PartStep, scope_of, stack_of, outside}
use Rattle.ct_grammar_machine.specs.Frames.{InElseBody, InBraces, InPlace, InItem, DeclSpecs, ToTest, ToAssert, Opening, Pointed, Want}
use Rattle.ct_grammar_machine.specs.Steps as m
use Rattle.ct_parser_state.specs.declared.entries.Entry.{Entry}
use Rattle.ct_parser_state.specs.declared.frames.BodyFrame.{BodyFrame}
use Rattle.ct_parser_state.specs.declared.frames.BodyFrame.TheVariants.{Switch}
use Rattle.ct_parser_state.specs.declared.frames.Frame.{Frame}
use Rattle.ct_parser_state.specs.declared.frames.Frame.TheVariants.{Body}
use Rattle.ct_parser_statements.specs.Tests.{is_if, is_assertion, is_semicolon, is_close_brace, is_open_bracket, is_dot}

pub else_if : (sc : Scope) (s : PartStack) (bs : Part branches) (x : Word) → is_if x ≡ true → m.after_else parts_built sc s bs x ≡ Some (sc, s, Opening (ToTest bs))
else_if sc s bs (Key w.If) h = refl
else_if sc s bs _ h = absurd cc

pub else_other : (sc : Scope) (s : PartStack) (bs : Part branches) (x : Word) → is_if x ≡ false → m.after_else parts_built sc s bs x ≡ m.statement parts_built sc (InElseBody bs ∷ s) x
else_other sc s bs (Key w.If) h = absurd cc
else_other sc s bs _ h = refl

pub start_assertion : (sc : Scope) (s : PartStack) (x : Word) → is_assertion x ≡ true → m.for_starting parts_built sc s x ≡ Some (sc, s, Opening ToAssert)
start_assertion sc s (Key w.StaticAssert) h = refl
start_assertion sc s _ h = absurd cc

pub start_none : (sc : Scope) (s : PartStack) (x : Word) → is_semicolon x ≡ true → m.for_starting parts_built sc s x ≡ m.no_start parts_built sc s
start_none sc s (Sign k.Semicolon) h = refl
start_none sc s _ h = absurd cc

pub start_other : (sc : Scope) (s : PartStack) (x : Word) → is_assertion x ≡ false → is_semicolon x ≡ false → m.for_starting parts_built sc s x ≡ (if begins_specs sc (x ∷ []) then m.specs_step parts_built sc (DeclSpecs ∷ s) parts_built.no_specs x else m.begin parts_built sc s x)
start_other sc s (Key w.StaticAssert) h e = absurd cc
start_other sc s (Sign k.Semicolon) h e = absurd cc
start_other sc s _ h e = refl

pub part_assertion : (sc : Scope) (s : PartStack) (x : Word) → is_assertion x ≡ true → m.block_part parts_built sc s x ≡ Some (sc, s, Opening ToAssert)
part_assertion sc s (Key w.StaticAssert) h = refl
part_assertion sc s _ h = absurd cc

pub part_closed : (sc : Scope) (s : PartStack) (x : Word) → is_close_brace x ≡ true → m.block_part parts_built sc s x ≡ m.close_body parts_built s
part_closed sc s (Sign k.CloseBrace) h = refl
part_closed sc s _ h = absurd cc

pub part_other : (sc : Scope) (s : PartStack) (x : Word) → is_assertion x ≡ false → is_close_brace x ≡ false → m.block_part parts_built sc s x ≡ (if begins_specs sc (x ∷ []) then m.specs_step parts_built sc (DeclSpecs ∷ s) parts_built.no_specs x else m.statement parts_built sc s x)
part_other sc s (Key w.StaticAssert) h e = absurd cc
part_other sc s (Sign k.CloseBrace) h e = absurd cc
part_other sc s _ h e = refl

pub item_dotted : (sc : Scope) (s : PartStack) (is : Part inits) (x : Word) → is_dot x ≡ true → m.item parts_built sc (InBraces is ∷ s) x ≡ Some (sc, InBraces is ∷ s, Pointed)
item_dotted sc s is (Sign (k.Member op.Dot)) h = refl
item_dotted sc s is _ h = absurd cc

pub item_indexed : (sc : Scope) (s : PartStack) (is : Part inits) (x : Word) → is_open_bracket x ≡ true → m.item parts_built sc (InBraces is ∷ s) x ≡ Some (sc, InPlace is ∷ s, Want)
item_indexed sc s is (Sign k.OpenBracket) h = refl
item_indexed sc s is _ h = absurd cc

pub item_other : (sc : Scope) (s : PartStack) (is : Part inits) (x : Word) → is_dot x ≡ false → is_open_bracket x ≡ false → m.item parts_built sc (InBraces is ∷ s) x ≡ m.want_init parts_built sc (InItem is AtNext ∷ s) x
item_other sc s is (Sign (k.Member op.Dot)) h e = absurd cc
item_other sc s is (Sign k.OpenBracket) h e = absurd cc
item_other sc s is _ h e = refl

-- what a label or a part of a body comes to
abbrev labelled : List Entry → List Frame → Word → PartStep
labelled es fs x = if m.is_label x then m.label parts_built (scope_of es) (stack_of (outside es) fs) x else m.block_part parts_built (scope_of es) (stack_of (outside es) fs) x

-- a body that may hold labels
abbrev is_switch : BodyFrame → Bool
is_switch (Switch at value brace parts) = true
is_switch _ = false

in_switch : (es : List Entry) (fs : List Frame) (y : BodyFrame) (x : Word) → is_switch y ≡ true → labelled es (Body y ∷ fs) x ≡ m.begin_part parts_built (scope_of es) (stack_of (outside es) (Body y ∷ fs)) x
in_switch es fs (Switch at value brace parts) x h = refl
in_switch es fs _ x h = absurd cc

pub switch_pushed : (es es' : List Entry) (fs fs' : List Frame) (y : BodyFrame) (x : Word) → is_switch y ≡ true → es' ≡ es → fs' ≡ Body y ∷ fs → (if m.is_label x then m.label parts_built (scope_of es') (stack_of (outside es') fs') x else m.block_part parts_built (scope_of es') (stack_of (outside es') fs') x) ≡ m.begin_part parts_built (scope_of es) (stack_of (outside es) (Body y ∷ fs)) x
switch_pushed es es' fs fs' y x h e k = ap (λ z. labelled z fs' x) e ∙ ap (λ z. labelled es z x) k ∙ in_switch es fs y x h
