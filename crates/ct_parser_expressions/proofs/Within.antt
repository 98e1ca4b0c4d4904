-- A type behind an open parenthesis, by the production that the parenthesis stands in.
use Rattle.std.proofs.Common.{◌≡◌, false, nat_lt, if◌then◌else◌, List, ◌∷◌, None, refl, sym, ap, ◌∙◌}
use Rattle.ct_base.specs.declared.lexical.Span.{Span}
use Rattle.ct_syntax.specs.Words.{Word}
use Rattle.ct_syntax.specs.Scopes.{Scope}
use Rattle.ct_parser_parts.specs.Parts.{Part, parts_built}
use Rattle.ct_grammar_machine.specs.Frames as m
use Rattle.ct_grammar_machine.specs.Steps as s
use Rattle.ct_parser_state.specs.Code.{PartStack, PartStep, scope_of, outside, behind, frame_of, stack_of}
use Rattle.ct_parser_state.specs.declared.entries.Entry.{Entry}
use Rattle.ct_parser_state.specs.declared.frames.Frame.{Frame}
use Rattle.ct_parser_state.specs.declared.frames.Frame.TheVariants as f
use Rattle.ct_parser_state.specs.declared.frames.OperandFrame.TheVariants as o
use Rattle.ct_parser_declarators.specs.Signs.{is_size}

in_other : (scope : Scope) (top : m.Frame Part) (rest : PartStack) (w : Word) → is_size top ≡ false → s.begin_type parts_built scope (m.InParen ∷ top ∷ rest) w ≡ (if nat_lt 14 (m.needs top) then None else s.specs_step parts_built scope (m.CastSpecs scope ∷ top ∷ rest) parts_built.no_specs w)
in_other scope m.InSizeof rest w h = absurd cc
in_other scope _ rest w h = refl

paren_in : List Entry → List Frame → Word → PartStep
paren_in es fs w = s.begin_type parts_built (scope_of es) (m.InParen ∷ stack_of (outside es) fs) w

taken_off : (old : List Entry) (fs : List Frame) (top : Frame) (es : List Entry) (rest : List Frame) (w : Word) → fs ≡ top ∷ rest → es ≡ old → paren_in old fs w ≡ paren_in es (top ∷ rest) w
taken_off old fs top es rest w e h = ap (λ z. paren_in old z w) e ∙ ap (λ z. paren_in z (top ∷ rest) w) (sym h)

pub within_other : (old : List Entry) (fs : List Frame) (top : Frame) (es : List Entry) (rest : List Frame) (w : Word) → fs ≡ top ∷ rest → es ≡ old → is_size (frame_of (outside es) top) ≡ false → s.begin_type parts_built (scope_of old) (m.InParen ∷ stack_of (outside old) fs) w ≡ (if nat_lt 14 (m.needs (frame_of (outside es) top)) then None else s.specs_step parts_built (scope_of es) (m.CastSpecs (scope_of es) ∷ frame_of (outside es) top ∷ stack_of (behind (outside es) top) rest) parts_built.no_specs w)
unfolding paren_in
within_other old fs top es rest w e h n = taken_off old fs top es rest w e h ∙ in_other (scope_of es) (frame_of (outside es) top) (stack_of (behind (outside es) top) rest) w n

pub within_sizeof : (old : List Entry) (fs : List Frame) (top : Frame) (es : List Entry) (rest : List Frame) (w : Word) (at : Span) → fs ≡ top ∷ rest → es ≡ old → top ≡ f.Operand (o.Sizeof at) → s.begin_type parts_built (scope_of old) (m.InParen ∷ stack_of (outside old) fs) w ≡ s.specs_step parts_built (scope_of es) (m.SizeofSpecs (scope_of es) ∷ stack_of (outside es) rest) parts_built.no_specs w
unfolding paren_in
within_sizeof old fs top es rest w at e h n = taken_off old fs top es rest w e h ∙ ap (λ z. paren_in es (z ∷ rest) w) n
