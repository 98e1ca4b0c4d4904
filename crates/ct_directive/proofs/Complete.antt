-- Lines whose conditionals are balanced are a group; else a conditional is open at their end, and there is one that is the innermost.
use Rattle.std.proofs.Common.{◌≡◌, ◌⊎◌, ℕ, Bool, true, false, if◌then◌else◌, List, [], ◌∷◌, ◌++◌, Option, Some, None, refl, sym, ap, subst, ◌∙◌, inl, inr}
use Rattle.std.proofs.lemmas.Bool.{false≢true}
use Rattle.ct_base.specs.declared.lexical.Token.{Token}
use Rattle.ct_directive.specs.Groups.{Line, TextLine, ControlLine, IfLine, ElifLine, ElseLine, EndifLine, line_of, Group, Nothing, Text, Control, Section, Others, NoOthers, Elif, Else, IsGroup, AreOthers, nothing, text, control, section, none, elif, last as else_group}
use Rattle.ct_directive.proofs.Shapes.{Shape, ended, behind, goes, run}
use Rattle.ct_directive.proofs.Running.{none_is_not_some, same_some, empty_has_no_first}
use Rattle.ct_directive.proofs.Sound.{opened}

-- ---- the rest of a file, from inside the groups of the open conditionals

-- The rest of a group of this conditional, and its further groups: these lines are left behind them. No group follows the last one.
pub record Part (shape : Shape) (lines rest : List (List Token)) : Type 0 where
  pub inner : Group
  pub more : List (List Token)
  pub others : Others
  pub is_inner : IsGroup lines inner more
  pub are_others : AreOthers more others rest
  pub ends_there : shape.last ≡ true → others ≡ NoOthers

-- the conditional is still open at the end of the lines
pub record Stays (shape : Shape) (shapes : List Shape) (lines : List (List Token)) (target : List Shape) : Type 0 where
  pub ending : Bool
  pub part : Part shape lines []
  pub stays : target ≡ opened shape.number ending ∷ shapes

-- these lines close the conditional, and these are left behind it
pub record Closes (shape : Shape) (lines after : List (List Token)) : Type 0 where
  pub line : List Token
  pub number : ℕ
  pub part : Part shape lines (line ∷ after)
  pub closes : line_of line ≡ EndifLine number

-- the rest of a file, and what is open at its end, by the conditionals that are open before it
abbrev pub Tail : List Shape → List (List Token) → List Shape → Type 0
Tail [] lines target = (group : Group) × IsGroup lines group [] × (target ≡ [])
Tail (shape ∷ shapes) lines target = Stays shape shapes lines target ⊎ ((after : List (List Token)) × Closes shape lines after × Tail shapes after target)

-- the innermost conditional that is open at the end of these lines
pub record Opened (lines : List (List Token)) (target : List Shape) : Type 0 where
  pub outer : List (List Token)
  pub line : List Token
  pub inside : List (List Token)
  pub more : List (List Token)
  pub number : ℕ
  pub name : Token
  pub tokens : List Token
  pub inner : Group
  pub others : Others
  pub ending : Bool
  pub shapes : List Shape
  pub split : lines ≡ outer ++ line ∷ inside
  pub opens : line_of line ≡ IfLine number name tokens
  pub is_inner : IsGroup inside inner more
  pub are_others : AreOthers more others []
  pub stays : target ≡ opened number ending ∷ shapes

-- lines that break no conditional, and what is open at their end
abbrev pub Read : List Shape → List (List Token) → List Shape → Type 0
Read shapes lines target = Tail shapes lines target ⊎ Opened lines target

-- ---- a line more

-- a group of the one lines is the begin of a group of the others
abbrev Grows : List (List Token) → List (List Token) → Type 0
Grows lines whole = (group : Group) (rest : List (List Token)) → IsGroup lines group rest → (other : Group) × IsGroup whole other rest

-- the part of a conditional grows with its first group
grown_part : (shape : Shape) (lines whole rest : List (List Token)) → Grows lines whole → Part shape lines rest → Part shape whole rest
grown_part shape lines whole rest grows part =
    let r = grows part.inner part.more part.is_inner in
    record {
      inner = r.0;
      more = part.more;
      others = part.others;
      is_inner = r.1;
      are_others = part.are_others;
      ends_there = part.ends_there;
    }

-- a conditional that another one, or more lines, stand for
turned : (shape other : Shape) (shapes : List Shape) (lines whole : List (List Token)) (target : List Shape) → shape.number ≡ other.number
    → ((rest : List (List Token)) → Part shape lines rest → Part other whole rest) → Tail (shape ∷ shapes) lines target → Tail (other ∷ shapes) whole target
turned shape other shapes lines whole target same turns (inl stays) =
    inl (record {
      ending = stays.ending;
      part = turns [] stays.part;
      stays = stays.stays ∙ ap (λ (n : ℕ). opened n stays.ending ∷ shapes) same;
    })
turned shape other shapes lines whole target same turns (inr closed) =
    inr (closed.0, record { line = closed.1.line; number = closed.1.number; part = turns (closed.1.line ∷ closed.0) closed.1.part; closes = closed.1.closes }, closed.2)

-- so does the rest of a file
grown : (shapes : List Shape) (lines whole : List (List Token)) (target : List Shape) → Grows lines whole → Tail shapes lines target → Tail shapes whole target
grown [] lines whole target grows tail = let r = grows tail.0 [] tail.1 in (r.0, r.1, tail.2)
grown (shape ∷ shapes) lines whole target grows tail = turned shape shape shapes lines whole target refl (λ rest. grown_part shape lines whole rest grows) tail

-- what is open in the rest of some lines is open in the lines
opened_later : (line : List Token) (lines : List (List Token)) (target : List Shape) → Opened lines target → Opened (line ∷ lines) target
opened_later line lines target o =
    record {
      outer = line ∷ o.outer;
      line = o.line;
      inside = o.inside;
      more = o.more;
      number = o.number;
      name = o.name;
      tokens = o.tokens;
      inner = o.inner;
      others = o.others;
      ending = o.ending;
      shapes = o.shapes;
      split = ap (λ (rest : List (List Token)). line ∷ rest) o.split;
      opens = o.opens;
      is_inner = o.is_inner;
      are_others = o.are_others;
      stays = o.stays;
    }

-- lines with a line before them, where nothing opened in them stays open
read_later : (shapes next : List Shape) (line : List Token) (lines : List (List Token)) (target : List Shape)
    → (Tail next lines target → Read shapes (line ∷ lines) target) → Read next lines target → Read shapes (line ∷ lines) target
read_later shapes next line lines target reads (inl tail) = reads tail
read_later shapes next line lines target reads (inr o) = inr (opened_later line lines target o)

-- ---- each kind of line

-- a text line stands before a group
text_grows : (line : List Token) (lines : List (List Token)) → line_of line ≡ TextLine → Grows lines (line ∷ lines)
text_grows line lines is group rest more = (Text line group, text is more)

-- a control line stands before a group
control_grows : (line : List Token) (lines : List (List Token)) (number : ℕ) (tokens : List Token) → line_of line ≡ ControlLine number tokens → Grows lines (line ∷ lines)
control_grows line lines number tokens is group rest more = (Control number tokens group, control is more)

-- a whole conditional stands before a group
section_grows : (line : List Token) (lines after : List (List Token)) (number : ℕ) (name : Token) (tokens : List Token) (shape : Shape) → line_of line ≡ IfLine number name tokens
    → Closes shape lines after → Grows after (line ∷ lines)
section_grows line lines after number name tokens shape is closed group rest more =
    (Section number name tokens closed.part.inner closed.part.others group, section is closed.part.is_inner closed.part.are_others closed.closes more)

-- a line that begins a conditional: the conditional is closed, or it is the innermost one that is open at the end
begins : (line : List Token) (lines : List (List Token)) (number : ℕ) (name : Token) (tokens : List Token) (shapes target : List Shape) → line_of line ≡ IfLine number name tokens
    → Tail (opened number false ∷ shapes) lines target → Read shapes (line ∷ lines) target
begins line lines number name tokens shapes target is (inl stays) =
    inr (record {
      outer = [];
      line = line;
      inside = lines;
      more = stays.part.more;
      number = number;
      name = name;
      tokens = tokens;
      inner = stays.part.inner;
      others = stays.part.others;
      ending = stays.ending;
      shapes = shapes;
      split = refl;
      opens = is;
      is_inner = stays.part.is_inner;
      are_others = stays.part.are_others;
      stays = stays.stays;
    })
begins line lines number name tokens shapes target is (inr closed) =
    inl (grown shapes closed.0 (line ∷ lines) target (section_grows line lines closed.0 number name tokens (opened number false) is closed.1) closed.2)

-- a line `#elif` begins a further group
elif_turns : (line : List Token) (lines : List (List Token)) (number : ℕ) (tokens : List Token) (shape : Shape) → line_of line ≡ ElifLine number tokens → shape.last ≡ false
    → (rest : List (List Token)) → Part shape lines rest → Part shape (line ∷ lines) rest
elif_turns line lines number tokens shape is no_last rest part =
    record {
      inner = Nothing;
      more = line ∷ lines;
      others = Elif number tokens part.inner part.others;
      is_inner = nothing;
      are_others = elif is part.is_inner part.are_others;
      ends_there = λ ending. absurd (false≢true (sym no_last ∙ ending));
    }

-- nothing is taken from the lines by no further groups
none_taken : {more rest : List (List Token)} → AreOthers more NoOthers rest → more ≡ rest
none_taken none = refl

-- a line `#else` begins the last group
else_turns : (line : List Token) (lines : List (List Token)) (number : ℕ) (shape : Shape) → line_of line ≡ ElseLine number → shape.last ≡ false
    → (rest : List (List Token)) → Part (ended shape) lines rest → Part shape (line ∷ lines) rest
else_turns line lines number shape is no_last rest part =
    let left : part.more ≡ rest = none_taken (subst (λ (others : Others). AreOthers part.more others rest) (part.ends_there refl) part.are_others) in
    record {
      inner = Nothing;
      more = line ∷ lines;
      others = Else part.inner;
      is_inner = nothing;
      are_others = else_group is (subst (λ (after : List (List Token)). IsGroup lines part.inner after) left part.is_inner);
      ends_there = λ ending. absurd (false≢true (sym no_last ∙ ending));
    }

-- a line `#endif` closes the innermost conditional
endif_closes : (line : List Token) (lines : List (List Token)) (number : ℕ) (shape : Shape) → line_of line ≡ EndifLine number → Closes shape (line ∷ lines) lines
endif_closes line lines number shape is =
    record {
      line = line;
      number = number;
      part = record {
        inner = Nothing;
        more = line ∷ lines;
        others = NoOthers;
        is_inner = nothing;
        are_others = none;
        ends_there = λ ending. refl;
      };
      closes = is;
    }

-- where a group may follow, it is not the last one that is begun
may_follow : (ending : Bool) (next : List Shape) (after : List Shape → Option (List Shape)) (target : List Shape)
    → goes (if ending then None else Some next) after ≡ Some target → (ending ≡ false) × (after next ≡ Some target)
may_follow true next after target e = absurd (none_is_not_some e)
may_follow false next after target e = (refl, e)

-- ---- all lines

-- a line of any kind, and the lines behind it
line_read : (line : List Token) (lines : List (List Token)) (target : List Shape) (kind : Line) → line_of line ≡ kind
    → ((next : List Shape) → run next lines ≡ Some target → Read next lines target)
    → (shapes : List Shape) → goes (behind kind shapes) (λ next. run next lines) ≡ Some target → Read shapes (line ∷ lines) target
line_read line lines target TextLine is each shapes e =
    read_later shapes shapes line lines target (λ tail. inl (grown shapes lines (line ∷ lines) target (text_grows line lines is) tail)) (each shapes e)
line_read line lines target (ControlLine number tokens) is each shapes e =
    read_later shapes shapes line lines target (λ tail. inl (grown shapes lines (line ∷ lines) target (control_grows line lines number tokens is) tail)) (each shapes e)
line_read line lines target (IfLine number name tokens) is each shapes e =
    read_later shapes (opened number false ∷ shapes) line lines target (begins line lines number name tokens shapes target is) (each (opened number false ∷ shapes) e)
line_read line lines target (ElifLine number tokens) is each [] e = absurd (none_is_not_some e)
line_read line lines target (ElifLine number tokens) is each (shape ∷ shapes) e =
    let r = may_follow shape.last (shape ∷ shapes) (λ next. run next lines) target e in
    read_later (shape ∷ shapes) (shape ∷ shapes) line lines target
    (λ tail. inl (turned shape shape shapes lines (line ∷ lines) target refl (elif_turns line lines number tokens shape is r.0) tail)) (each (shape ∷ shapes) r.1)
line_read line lines target (ElseLine number) is each [] e = absurd (none_is_not_some e)
line_read line lines target (ElseLine number) is each (shape ∷ shapes) e =
    let r = may_follow shape.last (ended shape ∷ shapes) (λ next. run next lines) target e in
    read_later (shape ∷ shapes) (ended shape ∷ shapes) line lines target
    (λ tail. inl (turned (ended shape) shape shapes lines (line ∷ lines) target refl (else_turns line lines number shape is r.0) tail)) (each (ended shape ∷ shapes) r.1)
line_read line lines target (EndifLine number) is each [] e = absurd (none_is_not_some e)
line_read line lines target (EndifLine number) is each (shape ∷ shapes) e =
    read_later (shape ∷ shapes) shapes line lines target (λ tail. inl (inr (lines, endif_closes line lines number shape is, tail))) (each shapes e)

-- Lines that break no conditional: they close the open conditionals as the tail says, or a conditional of their own stays open.
pub lines_read : (lines : List (List Token)) (shapes target : List Shape) → run shapes lines ≡ Some target → Read shapes lines target
lines_read [] [] target e = inl (Nothing, nothing, sym (same_some e))
lines_read [] (shape ∷ shapes) target e =
    inl (inl (record {
      ending = shape.last;
      part = record {
        inner = Nothing;
        more = [];
        others = NoOthers;
        is_inner = nothing;
        are_others = none;
        ends_there = λ ending. refl;
      };
      stays = sym (same_some e);
    }))
lines_read (line ∷ lines) shapes target e = line_read line lines target (line_of line) refl (λ next. lines_read lines next target) shapes e

-- ---- what is wanted of it

-- lines behind which nothing is open are a group
group_in : (lines : List (List Token)) → Read [] lines [] → (group : Group) × IsGroup lines group []
group_in lines (inl tail) = (tail.0, tail.1)
group_in lines (inr o) = absurd (empty_has_no_first o.stays)

-- lines whose conditionals are balanced are a group
pub complete : (lines : List (List Token)) → run [] lines ≡ Some [] → (group : Group) × IsGroup lines group []
complete lines e = group_in lines (lines_read lines [] [] e)

-- lines behind which a conditional is open open it themselves
opened_in : (lines : List (List Token)) (shape : Shape) (shapes : List Shape) → Read [] lines (shape ∷ shapes) → Opened lines (shape ∷ shapes)
opened_in lines shape shapes (inl tail) = absurd (empty_has_no_first (sym tail.2))
opened_in lines shape shapes (inr o) = o

-- where conditionals are open at the end of lines, a line of theirs opens the innermost
pub still_open : (lines : List (List Token)) (shape : Shape) (shapes : List Shape) → run [] lines ≡ Some (shape ∷ shapes) → Opened lines (shape ∷ shapes)
still_open lines shape shapes e = opened_in lines shape shapes (lines_read lines [] (shape ∷ shapes) e)
