-- Lists that are built from their beginning.
use Rattle.std.proofs.Common.{◌≡◌, refl, ap}
use Rattle.ct_syntax.specs.Words.{Text}
use Rattle.ct_syntax.specs.Trees as t
use Rattle.ct_grammar_machine.specs.Algebra.{expressions_then, specs_then, members_then, enumerators_then, declarators_then, parameters_then}

pub expressions-last : (xs : t.Expressions) (x : t.Expression) (ys : t.Expressions) → expressions_then (expressions_then xs (t.expression x t.no_expression)) ys ≡ expressions_then xs (t.expression x ys)
expressions-last t.no_expression x ys = refl
expressions-last (t.expression z xs) x ys = ap (t.expression z) (expressions-last xs x ys)

pub specs-assoc : (ss us vs : t.Specs) → specs_then (specs_then ss us) vs ≡ specs_then ss (specs_then us vs)
specs-assoc t.no_spec us vs = refl
specs-assoc (t.spec_word w ss) us vs = ap (t.spec_word w) (specs-assoc ss us vs)
specs-assoc (t.typedef_name n ss) us vs = ap (t.typedef_name n) (specs-assoc ss us vs)
specs-assoc (t.struct_tag n ss) us vs = ap (t.struct_tag n) (specs-assoc ss us vs)
specs-assoc (t.struct_list tag ms ss) us vs = ap (t.struct_list tag ms) (specs-assoc ss us vs)
specs-assoc (t.enum_tag n ss) us vs = ap (t.enum_tag n) (specs-assoc ss us vs)
specs-assoc (t.enum_list tag es c ss) us vs = ap (t.enum_list tag es c) (specs-assoc ss us vs)

pub specs-none : (ss : t.Specs) → specs_then ss t.no_spec ≡ ss
specs-none t.no_spec = refl
specs-none (t.spec_word w ss) = ap (t.spec_word w) (specs-none ss)
specs-none (t.typedef_name n ss) = ap (t.typedef_name n) (specs-none ss)
specs-none (t.struct_tag n ss) = ap (t.struct_tag n) (specs-none ss)
specs-none (t.struct_list tag ms ss) = ap (t.struct_list tag ms) (specs-none ss)
specs-none (t.enum_tag n ss) = ap (t.enum_tag n) (specs-none ss)
specs-none (t.enum_list tag es c ss) = ap (t.enum_list tag es c) (specs-none ss)

pub members-last : (ms : t.Members) (ss : t.Specs) (ds : t.Declarators) (ns : t.Members) → members_then (members_then ms (t.member ss ds t.no_member)) ns ≡ members_then ms (t.member ss ds ns)
members-last t.no_member ss ds ns = refl
members-last (t.member us es ms) ss ds ns = ap (t.member us es) (members-last ms ss ds ns)

pub members-none : (ms : t.Members) → members_then ms t.no_member ≡ ms
members-none t.no_member = refl
members-none (t.member us es ms) = ap (t.member us es) (members-none ms)

pub enumerators-last : (es : t.Enumerators) (n : Text) (v : t.Optional) (fs : t.Enumerators) → enumerators_then (enumerators_then es (t.enumerator n v t.no_enumerator)) fs ≡ enumerators_then es (t.enumerator n v fs)
enumerators-last t.no_enumerator n v fs = refl
enumerators-last (t.enumerator u x es) n v fs = ap (t.enumerator u x) (enumerators-last es n v fs)

pub declarators-last : (ds : t.Declarators) (d : t.Declarator) (es : t.Declarators) → declarators_then (declarators_then ds (t.declarator d t.no_declarator)) es ≡ declarators_then ds (t.declarator d es)
declarators-last t.no_declarator d es = refl
declarators-last (t.declarator u ds) d es = ap (t.declarator u) (declarators-last ds d es)

pub parameters-last : (ps : t.Parameters) (ss : t.Specs) (d : t.Declarator) (qs : t.Parameters) → parameters_then (parameters_then ps (t.parameter ss d t.no_parameter)) qs ≡ parameters_then ps (t.parameter ss d qs)
parameters-last t.no_parameter ss d qs = refl
parameters-last (t.parameter us e ps) ss d qs = ap (t.parameter us e) (parameters-last ps ss d qs)
