-- Where the end of a statement ends nothing else.
use Rattle.std.proofs.Common.{◌≡◌, false, List, [], ◌∷◌, refl}
use Rattle.ct_syntax.specs.Scopes.{Scope}
use Rattle.ct_grammar_machine.specs.Algebra.{stmt}
use Rattle.ct_parser_parts.specs.Parts.{Part, parts_built}
use Rattle.ct_parser_state.specs.Code.{stack_of}
use Rattle.ct_grammar_machine.specs.Steps as m
use Rattle.ct_parser_state.specs.declared.entries.Entry.{Entry}
use Rattle.ct_parser_state.specs.declared.frames.Frame.{Frame}
use Rattle.ct_parser_state.specs.declared.frames.Frame.TheVariants as f
use Rattle.ct_parser_state.specs.declared.frames.OperandFrame.TheVariants as o
use Rattle.ct_parser_state.specs.declared.frames.ValueFrame.TheVariants as v
use Rattle.ct_parser_state.specs.declared.frames.ClauseFrame.TheVariants as c
use Rattle.ct_parser_state.specs.declared.frames.SpecsFrame.TheVariants as s
use Rattle.ct_parser_state.specs.declared.frames.DeclaratorFrame.TheVariants as d
use Rattle.ct_parser_state.specs.declared.frames.ListFrame.TheVariants as l
use Rattle.ct_parser_state.specs.declared.frames.BodyFrame.TheVariants as b
use Rattle.ct_parser_state.specs.declared.frames.StatementFrame.TheVariants as t
use Rattle.ct_parser_statements.specs.Ends.{is_ended}

pub ended_none : (os : List Entry) (fs : List Frame) (sc : Scope) (x : Part stmt) → fs ≡ [] → m.ended parts_built sc (stack_of os fs) x ≡ (sc, stack_of os fs, x)
ended_none os [] sc x e = refl
ended_none os (y ∷ fs) sc x e = absurd cc

pub ended_stops : (os : List Entry) (fs : List Frame) (y : Frame) (sc : Scope) (x : Part stmt) → is_ended y ≡ false → m.ended parts_built sc (stack_of os (y ∷ fs)) x ≡ (sc, stack_of os (y ∷ fs), x)
ended_stops os fs (f.Operand (o.Prefix at op)) sc x e = refl
ended_stops os fs (f.Operand (o.Unary at op)) sc x e = refl
ended_stops os fs (f.Operand (o.Sizeof at)) sc x e = refl
ended_stops os fs (f.Operand (o.Cast at type declarator)) sc x e = refl
ended_stops os fs (f.Operand (o.Infix op left)) sc x e = refl
ended_stops os fs (f.Operand (o.Else test first)) sc x e = refl
ended_stops os fs (f.Operand (o.Assign op left)) sc x e = refl
ended_stops os fs (f.Operand (o.Comma left)) sc x e = refl
ended_stops os fs (f.Value (v.Paren at)) sc x e = refl
ended_stops os fs (f.Value (v.Call function before)) sc x e = refl
ended_stops os fs (f.Value (v.Index array)) sc x e = refl
ended_stops os fs (f.Value (v.Then test)) sc x e = refl
ended_stops os fs (f.Value (v.Enumerator at before tag enumerators place name)) sc x e = refl
ended_stops os fs (f.Value (v.Array purpose inner)) sc x e = refl
ended_stops os fs (f.Value (v.Init type before declarator)) sc x e = refl
ended_stops os fs (f.Value (v.Item at items place aim)) sc x e = refl
ended_stops os fs (f.Value (v.Place at items place)) sc x e = refl
ended_stops os fs (f.Clause (c.Assert at)) sc x e = refl
ended_stops os fs (f.Clause (c.Case at)) sc x e = refl
ended_stops os fs (f.Clause (c.Run at)) sc x e = refl
ended_stops os fs (f.Clause (c.Return at)) sc x e = refl
ended_stops os fs (f.Clause (c.Test ladder before at)) sc x e = refl
ended_stops os fs (f.Clause (c.LoopTest at)) sc x e = refl
ended_stops os fs (f.Clause (c.DoTest at body)) sc x e = refl
ended_stops os fs (f.Clause (c.SwitchTest at)) sc x e = refl
ended_stops os fs (f.Clause (c.ForInit at)) sc x e = refl
ended_stops os fs (f.Clause (c.ForCondition at start)) sc x e = refl
ended_stops os fs (f.Clause (c.ForStep at start test)) sc x e = refl
ended_stops os fs (f.Specs (s.Cast at)) sc x e = refl
ended_stops os fs (f.Specs (s.Sizeof at)) sc x e = refl
ended_stops os fs (f.Specs (s.Members at before tag members)) sc x e = refl
ended_stops os fs (f.Specs (s.Parameters purpose inner parameters)) sc x e = refl
ended_stops os fs (f.Specs s.Declaration) sc x e = refl
ended_stops os fs (f.Declarator (d.Cast at type)) sc x e = refl
ended_stops os fs (f.Declarator (d.Sizeof at type)) sc x e = refl
ended_stops os fs (f.Declarator (d.Member at before tag members type declarators)) sc x e = refl
ended_stops os fs (f.Declarator (d.Parameter purpose inner parameters type)) sc x e = refl
ended_stops os fs (f.Declarator (d.Declaration first type before)) sc x e = refl
ended_stops os fs (f.Declarator (d.Group at purpose)) sc x e = refl
ended_stops os fs (f.Declarator (d.Pointer at purpose qualifiers)) sc x e = refl
ended_stops os fs (f.List (l.Enumerators at before tag enumerators)) sc x e = refl
ended_stops os fs (f.List (l.Braces at items)) sc x e = refl
ended_stops os fs (f.Body (b.Block at parts)) sc x e = refl
ended_stops os fs (f.Body (b.Switch at value brace parts)) sc x e = refl
ended_stops os fs (f.Body (b.Function type declarator brace parts)) sc x e = refl
ended_stops os fs (f.Body (b.Unit items)) sc x e = refl
ended_stops os fs (f.Statement (t.Branch ladder before at test)) sc x e = absurd cc
ended_stops os fs (f.Statement (t.ElseBody at branches)) sc x e = absurd cc
ended_stops os fs (f.Statement (t.While at test)) sc x e = absurd cc
ended_stops os fs (f.Statement (t.Do at)) sc x e = refl
ended_stops os fs (f.Statement (t.For at start test after)) sc x e = absurd cc
