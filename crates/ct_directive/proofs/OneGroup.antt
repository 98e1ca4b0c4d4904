-- Lines begin with one group alone, where what is left behind it can be no part of it.
use Rattle.std.proofs.Common.{◌≡◌, ℕ, List, [], ◌∷◌, refl, sym, ap, subst}
use Rattle.ct_base.specs.declared.lexical.Token.{Token}
use Rattle.ct_directive.specs.Groups.{Line, TextLine, ControlLine, IfLine, ElifLine, ElseLine, EndifLine, line_of, Group, Text, Control, Section, Others, Elif, Else, IsGroup, AreOthers, nothing, text, control, section, none, elif, last as else_group}

-- ---- what stands behind a group

-- a line with which no part of a group begins
abbrev pub StopsAt : Line → Type 0
StopsAt TextLine = ⊥
StopsAt (ControlLine number tokens) = ⊥
StopsAt (IfLine number name tokens) = ⊥
StopsAt (ElifLine number tokens) = Unit {0}
StopsAt (ElseLine number) = Unit {0}
StopsAt (EndifLine number) = Unit {0}

-- a line with which no further group of a conditional begins either
abbrev pub ClosesAt : Line → Type 0
ClosesAt TextLine = ⊥
ClosesAt (ControlLine number tokens) = ⊥
ClosesAt (IfLine number name tokens) = ⊥
ClosesAt (ElifLine number tokens) = ⊥
ClosesAt (ElseLine number) = ⊥
ClosesAt (EndifLine number) = Unit {0}

-- no part of a group begins with these lines
abbrev pub Stops : List (List Token) → Type 0
Stops [] = Unit {0}
Stops (line ∷ lines) = StopsAt (line_of line)

-- no part of a group and no further group of a conditional begins with these lines
abbrev pub Closes : List (List Token) → Type 0
Closes [] = Unit {0}
Closes (line ∷ lines) = ClosesAt (line_of line)

-- a line stops a group by its kind
stops_where : (line : List Token) (kind : Line) → line_of line ≡ kind → StopsAt kind → StopsAt (line_of line)
stops_where line kind is stops = subst StopsAt (sym is) stops

-- the kind of a line at which a group stops
stops_not : (line : List Token) (kind : Line) → line_of line ≡ kind → StopsAt (line_of line) → StopsAt kind
stops_not line kind is stops = subst StopsAt is stops

-- the kind of a line with which no further group begins
closes_not : (line : List Token) (kind : Line) → line_of line ≡ kind → ClosesAt (line_of line) → ClosesAt kind
closes_not line kind is closes = subst ClosesAt is closes

-- a line with which no further group begins stops a group
stops_at : (kind : Line) → ClosesAt kind → StopsAt kind
stops_at TextLine closes = closes
stops_at (ControlLine number tokens) closes = closes
stops_at (IfLine number name tokens) closes = closes
stops_at (ElifLine number tokens) closes = tt
stops_at (ElseLine number) closes = tt
stops_at (EndifLine number) closes = tt

-- where no further group begins, no part of a group begins
no_part_begins : (lines : List (List Token)) → Closes lines → Stops lines
no_part_begins [] closes = tt
no_part_begins (line ∷ lines) closes = stops_at (line_of line) closes

-- no part of a group begins where the further groups of a conditional stand
others_stop : {lines rest : List (List Token)} {others : Others} → AreOthers lines others rest → Closes rest → Stops lines
others_stop {rest = rest} none closes = no_part_begins rest closes
others_stop (elif {line = line} {number = number} {tokens = tokens} is within others) closes = stops_where line (ElifLine number tokens) is tt
others_stop (else_group {line = line} {number = number} is within) closes = stops_where line (ElseLine number) is tt

-- no further group begins with a line `#endif`
closes_where : (line : List Token) (lines : List (List Token)) (number : ℕ) → line_of line ≡ EndifLine number → Closes (line ∷ lines)
closes_where line lines number is = subst ClosesAt (sym is) tt

-- ---- what one kind of a line tells

-- one control line begins one part of a group
same_control : (line : List Token) {a b : ℕ} {s t : List Token} {x y : Group} → line_of line ≡ ControlLine a s → line_of line ≡ ControlLine b t → x ≡ y → Control a s x ≡ Control b t y
same_control line is too same = cc

-- one line that opens a conditional begins one section
same_section : (line : List Token) {a b : ℕ} {name other : Token} {s t : List Token} {x y v w : Group} {m n : Others}
    → line_of line ≡ IfLine a name s → line_of line ≡ IfLine b other t → x ≡ y → m ≡ n → v ≡ w → Section a name s x m v ≡ Section b other t y n w
same_section line is too inner others behind = cc

-- one line `#elif` begins one further group
same_elif : (line : List Token) {a b : ℕ} {s t : List Token} {x y : Group} {m n : Others}
    → line_of line ≡ ElifLine a s → line_of line ≡ ElifLine b t → x ≡ y → m ≡ n → Elif a s x m ≡ Elif b t y n
same_elif line is too inner others = cc

-- equal lists have equal rests
same_rest : {a b : List Token} {x y : List (List Token)} → ◌≡◌ {A = List (List Token)} (a ∷ x) (b ∷ y) → x ≡ y
same_rest e = cc

-- a group of the same lines
group_at : {lines other rest : List (List Token)} {group : Group} → lines ≡ other → IsGroup other group rest → IsGroup lines group rest
group_at {rest = rest} {group = group} e is = subst (λ (from : List (List Token)). IsGroup from group rest) (sym e) is

-- further groups of the same lines
others_at : {lines other rest : List (List Token)} {others : Others} → lines ≡ other → AreOthers other others rest → AreOthers lines others rest
others_at {rest = rest} {others = others} e are = subst (λ (from : List (List Token)). AreOthers from others rest) (sym e) are

-- ---- one group

mutual
  -- two groups that the same lines begin with are one, and one is what is left behind them
  pub one_group : {lines rest after : List (List Token)} {a b : Group} → IsGroup lines a rest → Stops rest → IsGroup lines b after → Stops after → (a ≡ b) × (rest ≡ after)
  one_group nothing stop nothing halt = (refl, refl)
  one_group nothing stop (text {line = line} is more) halt = absurd (stops_not line TextLine is stop)
  one_group nothing stop (control {line = line} {number = number} {tokens = tokens} is more) halt = absurd (stops_not line (ControlLine number tokens) is stop)
  one_group nothing stop (section {line = line} {number = number} {name = name} {tokens = tokens} is inner others closes more) halt = absurd (stops_not line (IfLine number name tokens) is stop)
  one_group (text {line = line} is more) stop nothing halt = absurd (stops_not line TextLine is halt)
  one_group (text {line = line} is more) stop (text too rest) halt =
      let r = one_group more stop rest halt in (ap (λ (group : Group). Text line group) r.0, r.1)
  one_group (text is more) stop (control too rest) halt = absurd cc
  one_group (text is more) stop (section too inner others closes rest) halt = absurd cc
  one_group (control {line = line} {number = number} {tokens = tokens} is more) stop nothing halt = absurd (stops_not line (ControlLine number tokens) is halt)
  one_group (control is more) stop (text too rest) halt = absurd cc
  one_group (control {line = line} is more) stop (control too rest) halt =
      let r = one_group more stop rest halt in (same_control line is too r.0, r.1)
  one_group (control is more) stop (section too inner others closes rest) halt = absurd cc
  one_group (section {line = line} {number = number} {name = name} {tokens = tokens} is inner others closes more) stop nothing halt = absurd (stops_not line (IfLine number name tokens) is halt)
  one_group (section is inner others closes more) stop (text too rest) halt = absurd cc
  one_group (section is inner others closes more) stop (control too rest) halt = absurd cc
  one_group (section {line = line} {last = end} {after = behind} {end = number} is inner others closes more) stop
      (section {last = end'} {after = behind'} {end = number'} too inner' others' closes' more') halt =
      let closed : Closes (end ∷ behind) = closes_where end behind number closes in
      let closed' : Closes (end' ∷ behind') = closes_where end' behind' number' closes' in
      let i = one_group inner (others_stop others closed) inner' (others_stop others' closed') in
      let o = one_others others closed (others_at i.1 others') closed' in
      let r = one_group more stop (group_at (same_rest o.1) more') halt in
      (same_section line is too i.0 o.0 r.0, r.1)

  -- so are two rows of further groups of a conditional
  pub one_others : {lines rest after : List (List Token)} {a b : Others} → AreOthers lines a rest → Closes rest → AreOthers lines b after → Closes after → (a ≡ b) × (rest ≡ after)
  one_others none stop none halt = (refl, refl)
  one_others none stop (elif {line = line} {number = number} {tokens = tokens} is inner others) halt = absurd (closes_not line (ElifLine number tokens) is stop)
  one_others none stop (else_group {line = line} {number = number} is inner) halt = absurd (closes_not line (ElseLine number) is stop)
  one_others (elif {line = line} {number = number} {tokens = tokens} is inner others) stop none halt = absurd (closes_not line (ElifLine number tokens) is halt)
  one_others (elif {line = line} is inner others) stop (elif too inner' others') halt =
      let i = one_group inner (others_stop others stop) inner' (others_stop others' halt) in
      let o = one_others others stop (others_at i.1 others') halt in
      (same_elif line is too i.0 o.0, o.1)
  one_others (elif is inner others) stop (else_group too inner') halt = absurd cc
  one_others (else_group {line = line} {number = number} is inner) stop none halt = absurd (closes_not line (ElseLine number) is halt)
  one_others (else_group is inner) stop (elif too inner' others') halt = absurd cc
  one_others (else_group {rest = rest} is inner) stop (else_group {rest = after} too inner') halt =
      let i = one_group inner (no_part_begins rest stop) inner' (no_part_begins after halt) in (ap (λ (group : Group). Else group) i.0, i.1)

-- lines are one group at most
pub one_whole : (lines other : List (List Token)) (a b : Group) → lines ≡ other → IsGroup lines a [] → IsGroup other b [] → a ≡ b
one_whole lines other a b e is too = (one_group is tt (group_at e too) tt).0
