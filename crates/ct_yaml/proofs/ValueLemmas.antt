-- Values on one line are read exactly where they are written.
use Rattle.std.proofs.Common.{◌≡◌, ℕ, zero, suc, ◌≤◌, Bool, true, false, eqb, List, [], ◌∷◌, ◌++◌, length, map, Some, None, refl, sym, ap, ◌∙◌, subst, ◌&&◌, not, inl, inr, append_assoc, arith, length-append}
use Rattle.std.specs.Option.{IfSome}
use Rattle.std.specs.Prelude.{flat_map}
use Rattle.std.specs.List.{list_any}
use Rattle.std.proofs.lemmas.Option.{IfSome_then}
use Rattle.std.proofs.lemmas.Bool.{cond_both, cond-false, false≢true, and_parts, and_left, and_right, or_from, eqb-true}
use Rattle.ct_yaml.specs.declared.node.Node.TheVariants.{Scalar}
use Rattle.ct_yaml.specs.declared.mark.Inline.{Inline}
use Rattle.ct_yaml.specs.declared.mark.Inline.TheVariants as inline
use Rattle.ct_yaml.specs.Line.{is_rest, is_gap, spaces, is_indicator, is_plain, is_flow_mark, doubled, IsScalar, IsFlowScalar, AreElements, IsFlow, IsInline}
use Rattle.ct_yaml.specs.Reading.{Found, then_read, mapped, as_value, onto, skip, is_stop, is_flow_stop, scalar_at, flow_scalar_at, element_end, element_at, elements_on, elements_at, flow_from, flow_at, nodes_of, brace_from, inline_from, inline_at}
use Rattle.ct_yaml.proofs.Grow.{IfSome-mapped}
use Rattle.ct_yaml.proofs.Steps.{then_some}
use Rattle.ct_yaml.proofs.Scan.{other_byte, plain_parts, rest_inside}
use Rattle.ct_yaml.proofs.ScalarLemmas.{IfSome-onto, scalar_again, flow_scalar_again, scalar_reads, flow_scalar_reads}

-- ---- spaces

pub skip_spaces : (n : ℕ) (bytes : List ℕ) → skip (spaces n ++ bytes) ≡ skip bytes
skip_spaces zero bytes = refl
skip_spaces (suc n) bytes = skip_spaces n bytes

pub skip_reads : (bytes : List ℕ) → (n : ℕ) × (bytes ≡ spaces n ++ skip bytes)
skip_reads [] = (0, refl)
skip_reads (b ∷ bytes) =
    cond_both (eqb b 32) (skip bytes) (b ∷ bytes) (λ rest. (n : ℕ) × (b ∷ bytes ≡ spaces n ++ rest))
    (λ e. let r = skip_reads bytes in (suc r.0, ap (λ c. c ∷ bytes) (eqb-true b 32 e) ∙ ap (λ x. 32 ∷ x) r.1))
    (λ no. (0, refl))

flow_stop_spaces : (n : ℕ) (bytes : List ℕ) → is_flow_stop bytes ≡ true → is_flow_stop (spaces n ++ bytes) ≡ true
flow_stop_spaces zero bytes h = h
flow_stop_spaces (suc n) bytes h = flow_stop_spaces n bytes h

-- ---- the elements of a flow list

-- a scalar of a flow list begins with no space and no closing bracket
record IsFlowFront (written : List ℕ) : Type 0 where
  skipped : (rest : List ℕ) → skip (written ++ rest) ≡ written ++ rest
  goes_on : (all rest : List ℕ) → flow_from all (written ++ rest) ≡ elements_at all all

flow_first : (b : ℕ) (u : List ℕ) → eqb b 32 ≡ false → eqb b 93 ≡ false → IsFlowFront (b ∷ u)
flow_first b u space bracket = record {
  skipped = λ rest. cond-false (eqb b 32) (skip (u ++ rest)) (b ∷ u ++ rest) space;
  goes_on = λ all rest. cond-false (eqb b 93) (Some ([], u ++ rest)) (elements_at all all) bracket;
}

flow_front : (written text : List ℕ) → IsFlowScalar written text → IsFlowFront written
flow_front written [] (inl (e, plain)) = absurd (false≢true plain)
flow_front written (b ∷ u) (inl (e, plain)) =
    let p = plain_parts b u (and_parts (is_plain (b ∷ u)) (not (list_any is_flow_mark (b ∷ u))) plain).0 in
    subst IsFlowFront (sym e) (flow_first b u (other_byte is_indicator b 32 p.indicator refl) (other_byte is_indicator b 93 p.indicator refl))
flow_front written text (inr (inl e)) = subst IsFlowFront (sym e) (flow_first 39 (flat_map doubled text ++ 39 ∷ []) refl refl)
flow_front written text (inr (inr (inner, e, stands))) = subst IsFlowFront (sym e) (flow_first 34 (inner ++ 34 ∷ []) refl refl)

regroup : (a b c d e : List ℕ) → (((a ++ b) ++ c) ++ d) ++ e ≡ a ++ (b ++ (c ++ (d ++ e)))
regroup a b c d e = simp append_assoc

-- what closes an element: a bracket behind the last, else a comma
abbrev closer : Bool → ℕ
closer true = 93
closer false = 44

closer_stops : (is_last : Bool) (more : List ℕ) → is_flow_stop (closer is_last ∷ more) ≡ true
closer_stops true more = refl
closer_stops false more = refl

closer_ends : (text : List ℕ) (is_last : Bool) (more : List ℕ) → element_end text (skip (closer is_last ∷ more)) ≡ Some (text, is_last, more)
closer_ends text true more = refl
closer_ends text false more = refl

element_again : (n m : ℕ) (scalar text : List ℕ) (is_last : Bool) (more : List ℕ) → IsFlowScalar scalar text
    → element_at (spaces n ++ (scalar ++ (spaces m ++ closer is_last ∷ more))) ≡ Some (text, is_last, more)
unfolding element_at
element_again n m scalar text is_last more is =
    let tail : List ℕ = spaces m ++ closer is_last ∷ more in
    ap (λ bytes. then_read (flow_scalar_at bytes) (λ found. element_end found.0 (skip found.1))) (skip_spaces n (scalar ++ tail) ∙ (flow_front scalar text is).skipped tail)
    ∙ ap (λ o. then_read o (λ found. element_end found.0 (skip found.1)))
    (flow_scalar_again scalar text tail is (flow_stop_spaces m (closer is_last ∷ more) (closer_stops is_last more)))
    ∙ ap (element_end text) (skip_spaces m (closer is_last ∷ more))
    ∙ closer_ends text is_last more

elements_again : (texts : List (List ℕ)) (written rest fuel : List ℕ) → AreElements written texts → length written ≤ length fuel
    → elements_at fuel (written ++ rest) ≡ Some (texts, rest)
elements_again [] written rest fuel are few = absurd are
elements_again (text ∷ []) written rest [] (n, m, scalar, e, is) few =
    absurd (omega (arith, ap length e, length-append ((spaces n ++ scalar) ++ spaces m) (93 ∷ [])))
elements_again (text ∷ []) written rest (f ∷ fuel) (n, m, scalar, e, is) few =
    ap (λ w. elements_at (f ∷ fuel) (w ++ rest)) e
    ∙ ap (elements_at (f ∷ fuel)) (regroup (spaces n) scalar (spaces m) (93 ∷ []) rest)
    ∙ ap (λ o. then_read o (elements_on (elements_at fuel))) (element_again n m scalar text true rest is)
elements_again (text ∷ next ∷ texts) written rest [] (n, m, scalar, more, e, is, others) few =
    absurd (omega (arith, ap length e, length-append ((spaces n ++ scalar) ++ spaces m) (44 ∷ more)))
elements_again (text ∷ next ∷ texts) written rest (f ∷ fuel) (n, m, scalar, more, e, is, others) few =
    ap (λ w. elements_at (f ∷ fuel) (w ++ rest)) e
    ∙ ap (elements_at (f ∷ fuel)) (regroup (spaces n) scalar (spaces m) (44 ∷ more) rest)
    ∙ ap (λ o. then_read o (elements_on (elements_at fuel))) (element_again n m scalar text false (more ++ rest) is)
    ∙ ap (onto (text ∷ [])) (elements_again (next ∷ texts) more rest fuel others
    (omega (arith, ap length e, length-append ((spaces n ++ scalar) ++ spaces m) (44 ∷ more))))

-- an element stands at the front
abbrev StandsElement : List ℕ → List ℕ × Bool × List ℕ → Type 0
StandsElement bytes f = (n m : ℕ) × (scalar : List ℕ) × (bytes ≡ spaces n ++ (scalar ++ (spaces m ++ closer f.1 ∷ f.2))) × IsFlowScalar scalar f.0

end_reads : (text bytes : List ℕ) → IfSome (element_end text bytes) (λ f. (f.0 ≡ text) × (bytes ≡ closer f.1 ∷ f.2))
end_reads text [] = tt
end_reads text (b ∷ bytes) =
    cond_both (eqb b 93) (Some (text, true, bytes)) _ (λ o. IfSome o (λ f. (f.0 ≡ text) × (b ∷ bytes ≡ closer f.1 ∷ f.2)))
    (λ e. (refl, ap (λ c. c ∷ bytes) (eqb-true b 93 e)))
    (λ no'. cond_both (eqb b 44) (Some (text, false, bytes)) None (λ o. IfSome o (λ f. (f.0 ≡ text) × (b ∷ bytes ≡ closer f.1 ∷ f.2)))
    (λ e. (refl, ap (λ c. c ∷ bytes) (eqb-true b 44 e)))
    (λ no''. tt))

element_reads : (bytes : List ℕ) → IfSome (element_at bytes) (StandsElement bytes)
unfolding element_at
element_reads bytes =
    then_some (flow_scalar_at (skip bytes)) (λ found. element_end found.0 (skip found.1))
    (λ f. (written : List ℕ) × (skip bytes ≡ written ++ f.1) × IsFlowScalar written f.0) (StandsElement bytes)
    (flow_scalar_reads (skip bytes))
    (λ f (written, e, is). IfSome_then (element_end f.0 (skip f.1)) (end_reads f.0 (skip f.1)) (λ g h.
    let front = skip_reads bytes in
    let gap = skip_reads f.1 in (
      front.0,
      gap.0,
      written,
      front.1 ∙ ap (λ x. spaces front.0 ++ x) (e ∙ ap (λ x. written ++ x) (gap.1 ∙ ap (λ x. spaces gap.0 ++ x) h.1)),
      subst (IsFlowScalar written) (sym h.0) is,
    )))

-- elements stand at the front
abbrev StandElements : List ℕ → List (List ℕ) × List ℕ → Type 0
StandElements bytes f = (written : List ℕ) × (bytes ≡ written ++ f.1) × AreElements written f.0

-- one more element before others
more_elements : (text scalar more : List ℕ) (n m : ℕ) (texts : List (List ℕ)) → IsFlowScalar scalar text → AreElements more texts
    → AreElements (((spaces n ++ scalar) ++ spaces m) ++ 44 ∷ more) (text ∷ texts)
more_elements text scalar more n m [] is are = absurd are
more_elements text scalar more n m (next ∷ texts) is are = (n, m, scalar, more, refl, is, are)

on_reads : (bytes : List ℕ) (read : List ℕ → Found (List (List ℕ))) → ((rest : List ℕ) → IfSome (read rest) (StandElements rest))
    → (f : List ℕ × Bool × List ℕ) → StandsElement bytes f → IfSome (elements_on read f) (StandElements bytes)
on_reads bytes read reads (text, true, rest) (n, m, scalar, e, is) =
    (((spaces n ++ scalar) ++ spaces m) ++ 93 ∷ [], e ∙ sym (regroup (spaces n) scalar (spaces m) (93 ∷ []) rest), (n, m, scalar, refl, is))
on_reads bytes read reads (text, false, rest) (n, m, scalar, e, is) =
    IfSome-onto (text ∷ []) (read rest) (StandElements bytes)
    (IfSome_then (read rest) (reads rest) (λ f (more, e', are). (
      ((spaces n ++ scalar) ++ spaces m) ++ 44 ∷ more,
      e ∙ ap (λ x. spaces n ++ (scalar ++ (spaces m ++ 44 ∷ x))) e' ∙ sym (regroup (spaces n) scalar (spaces m) (44 ∷ more) f.1),
      more_elements text scalar more n m f.0 is are,
    )))

elements_read : (fuel bytes : List ℕ) → IfSome (elements_at fuel bytes) (StandElements bytes)
elements_read [] bytes = tt
elements_read (x ∷ fuel) bytes =
    then_some (element_at bytes) (elements_on (elements_at fuel)) (StandsElement bytes) (StandElements bytes) (element_reads bytes)
    (λ f h. on_reads bytes (elements_at fuel) (elements_read fuel) f h)

-- ---- flow lists

flow_again : (elements rest : List ℕ) (texts : List (List ℕ)) → IsFlow (91 ∷ elements) texts → flow_at (elements ++ rest) ≡ Some (texts, rest)
unfolding flow_at
flow_again elements rest texts (inl (n, e, none)) =
    let bytes : List ℕ = elements ++ rest in
    let cut : elements ≡ spaces n ++ 93 ∷ [] = cc in
    ap (flow_from bytes) (ap (λ w. skip (w ++ rest)) cut ∙ ap skip (append_assoc (spaces n) (93 ∷ []) rest) ∙ skip_spaces n (93 ∷ rest))
    ∙ ap (λ ts. Some (ts, rest)) (sym none)
flow_again elements rest texts (inr (inner, e, are)) =
    let same : elements ≡ inner = cc in
    first texts elements rest (subst (λ w. AreElements w texts) (sym same) are)
    ∙ elements_again texts elements rest (elements ++ rest) (subst (λ w. AreElements w texts) (sym same) are) (omega (arith, length-append elements rest))
  where
    first_of : (elements rest : List ℕ) (n m : ℕ) (scalar text tail : List ℕ) → elements ≡ ((spaces n ++ scalar) ++ spaces m) ++ tail → IsFlowScalar scalar text
        → flow_from (elements ++ rest) (skip (elements ++ rest)) ≡ elements_at (elements ++ rest) (elements ++ rest)
    first_of elements rest n m scalar text tail e is =
        let after : List ℕ = spaces m ++ (tail ++ rest) in
        ap (flow_from (elements ++ rest)) (ap (λ w. skip (w ++ rest)) e ∙ ap skip (regroup (spaces n) scalar (spaces m) tail rest)
        ∙ skip_spaces n (scalar ++ after) ∙ (flow_front scalar text is).skipped after)
        ∙ (flow_front scalar text is).goes_on (elements ++ rest) after

    first : (texts : List (List ℕ)) (elements rest : List ℕ) → AreElements elements texts
        → flow_from (elements ++ rest) (skip (elements ++ rest)) ≡ elements_at (elements ++ rest) (elements ++ rest)
    first [] elements rest are = absurd are
    first (text ∷ []) elements rest (n, m, scalar, e, is) = first_of elements rest n m scalar text (93 ∷ []) e is
    first (text ∷ next ∷ texts) elements rest (n, m, scalar, more, e, is, others) = first_of elements rest n m scalar text (44 ∷ more) e is

-- a flow list stands behind its opening bracket
abbrev StandsFlow : List ℕ → List (List ℕ) × List ℕ → Type 0
StandsFlow bytes f = (written : List ℕ) × (bytes ≡ written ++ f.1) × IsFlow (91 ∷ written) f.0

flow_from_reads : (n : ℕ) (all bytes : List ℕ) → all ≡ spaces n ++ bytes → IfSome (flow_from all bytes) (StandsFlow all)
flow_from_reads n all [] e = tt
flow_from_reads n all (b ∷ bytes) e =
    cond_both (eqb b 93) (Some ([], bytes)) (elements_at all all) (λ o. IfSome o (StandsFlow all))
    (λ h. (spaces n ++ 93 ∷ [], e ∙ ap (λ c. spaces n ++ c ∷ bytes) (eqb-true b 93 h) ∙ sym (append_assoc (spaces n) (93 ∷ []) bytes), inl (n, refl, refl)))
    (λ no'. IfSome_then (elements_at all all) (elements_read all all) (λ f (written, h, are). (written, h, inr (written, refl, are))))

flow_reads : (bytes : List ℕ) → IfSome (flow_at bytes) (StandsFlow bytes)
unfolding flow_at
flow_reads bytes = let r = skip_reads bytes in flow_from_reads r.0 bytes (skip bytes) r.1

-- ---- values

-- what is known of the first byte of a value: it is no space, begins no comment, and is no item's `-`
pub record IsFront (written : List ℕ) : Type 0 where
  pub byte : ℕ
  pub bytes : List ℕ
  pub is : written ≡ byte ∷ bytes
  pub space : eqb byte 32 ≡ false
  pub counts : (spaced : Bool) (rest : List ℕ) → is_rest spaced (byte ∷ bytes ++ rest) ≡ false
  pub dash : (rest : List ℕ) → ((eqb byte 45) && is_gap (bytes ++ rest)) ≡ false

sure_front : (written : List ℕ) (b : ℕ) (u : List ℕ) → written ≡ b ∷ u → eqb b 32 ≡ false → eqb b 9 ≡ false → eqb b 35 ≡ false → eqb b 45 ≡ false → IsFront written
sure_front written b u e space tab hash dash = record {
  byte = b;
  bytes = u;
  is = e;
  space = space;
  counts = λ spaced rest. or_from _ _ (and_right spaced (eqb b 35) hash) (and_left _ (is_rest (eqb b 32) (u ++ rest)) (or_from (eqb b 32) (eqb b 9) space tab));
  dash = λ rest. and_left (eqb b 45) (is_gap (u ++ rest)) dash;
}

pub scalar_front : (written text : List ℕ) → IsScalar written text → IsFront written
scalar_front written [] (inl (e, plain)) = absurd (false≢true plain)
scalar_front written (b ∷ u) (inl (e, plain)) =
    let p = plain_parts b u plain in record {
      byte = b;
      bytes = u;
      is = e;
      space = other_byte is_indicator b 32 p.indicator refl;
      counts = λ spaced rest. rest_inside spaced b u rest (and_right spaced (eqb b 35) (other_byte is_indicator b 35 p.indicator refl)) p.tail;
      dash = p.dash;
    }
scalar_front written text (inr (inl e)) = sure_front written 39 (flat_map doubled text ++ 39 ∷ []) e refl refl refl refl
scalar_front written text (inr (inr (inner, e, stands))) = sure_front written 34 (inner ++ 34 ∷ []) e refl refl refl refl

pub flow_list_front : (written : List ℕ) (texts : List (List ℕ)) → IsFlow written texts → IsFront written
flow_list_front written texts (inl (n, e, none)) = sure_front written 91 (spaces n ++ 93 ∷ []) e refl refl refl refl
flow_list_front written texts (inr (elements, e, are)) = sure_front written 91 elements e refl refl refl refl

pub inline_front : (written : List ℕ) (value : Inline) → IsInline written value → IsFront written
inline_front written (inline.Scalar text) is = scalar_front written text is
inline_front written (inline.Flow items) (texts, e, is) = flow_list_front written texts is
inline_front written inline.Braces (n, e) = sure_front written 123 (spaces n ++ 125 ∷ []) e refl refl refl refl

-- a scalar begins with no bracket or brace
pub no_bracket : (written text : List ℕ) → IsScalar written text
    → (b : ℕ) × (u : List ℕ) × (written ≡ b ∷ u) × (eqb b 91 ≡ false) × (eqb b 123 ≡ false)
no_bracket written [] (inl (e, plain)) = absurd (false≢true plain)
no_bracket written (b ∷ u) (inl (e, plain)) =
    let p = plain_parts b u plain in (b, u, e, other_byte is_indicator b 91 p.indicator refl, other_byte is_indicator b 123 p.indicator refl)
no_bracket written text (inr (inl e)) = (39, flat_map doubled text ++ 39 ∷ [], e, refl, refl)
no_bracket written text (inr (inr (inner, e, stands))) = (34, inner ++ 34 ∷ [], e, refl, refl)

scalar_value : (written rest text : List ℕ) → IsScalar written text → inline_from (written ++ rest) ≡ mapped (as_value inline.Scalar) (scalar_at (written ++ rest))
scalar_value written rest text is =
    let f = no_bracket written text is in
    let b : ℕ = f.0 in
    let bytes : List ℕ = f.1 ++ rest in
    ap (λ w. inline_from (w ++ rest)) f.2
    ∙ cond-false (eqb b 91) (mapped (as_value inline.Flow) (nodes_of (flow_at bytes))) _ f.3
    ∙ cond-false (eqb b 123) (mapped (λ rest. (inline.Braces, rest)) (brace_from (skip bytes))) (mapped (as_value inline.Scalar) (scalar_at (b ∷ bytes))) f.4
    ∙ ap (λ w. mapped (as_value inline.Scalar) (scalar_at (w ++ rest))) (sym f.2)

flow_value_again : (written rest : List ℕ) (texts : List (List ℕ)) → IsFlow written texts → inline_from (written ++ rest) ≡ Some (inline.Flow (map Scalar texts), rest)
flow_value_again written rest texts (inl (n, e, none)) =
    ap (λ w. inline_from (w ++ rest)) e
    ∙ ap (λ o. mapped (as_value inline.Flow) (nodes_of o)) (flow_again (spaces n ++ 93 ∷ []) rest texts (inl (n, refl, none)))
flow_value_again written rest texts (inr (elements, e, are)) =
    ap (λ w. inline_from (w ++ rest)) e
    ∙ ap (λ o. mapped (as_value inline.Flow) (nodes_of o)) (flow_again elements rest texts (inr (elements, refl, are)))

pub inline_again : (written rest : List ℕ) (value : Inline) → IsInline written value → is_stop false rest ≡ true → inline_at (written ++ rest) ≡ Some (value, rest)
unfolding inline_at
inline_again written rest (inline.Scalar text) is stop =
    scalar_value written rest text is ∙ ap (mapped (as_value inline.Scalar)) (scalar_again written text rest is stop)
inline_again written rest (inline.Flow items) (texts, e, is) stop =
    flow_value_again written rest texts is ∙ ap (λ xs. Some (inline.Flow xs, rest)) (sym e)
inline_again written rest inline.Braces (n, e) stop =
    ap (λ w. inline_from (w ++ rest)) e
    ∙ ap (λ bytes. mapped (λ r. (inline.Braces, r)) (brace_from bytes)) (ap skip (append_assoc (spaces n) (125 ∷ []) rest) ∙ skip_spaces n (125 ∷ rest))

-- a value stands at the front
abbrev pub StandsInline : List ℕ → Inline × List ℕ → Type 0
StandsInline bytes f = (written : List ℕ) × (bytes ≡ written ++ f.1) × IsInline written f.0

brace_reads : (n : ℕ) (all bytes : List ℕ) → all ≡ spaces n ++ bytes → IfSome (brace_from bytes) (λ rest. StandsInline (123 ∷ all) (inline.Braces, rest))
brace_reads n all [] e = tt
brace_reads n all (b ∷ bytes) e =
    cond_both (eqb b 125) (Some bytes) None (λ o. IfSome o (λ rest. StandsInline (123 ∷ all) (inline.Braces, rest)))
    (λ h. (
      123 ∷ spaces n ++ 125 ∷ [],
      ap (λ x. 123 ∷ x) (e ∙ ap (λ c. spaces n ++ c ∷ bytes) (eqb-true b 125 h) ∙ sym (append_assoc (spaces n) (125 ∷ []) bytes)),
      (n, refl),
    ))
    (λ no'. tt)

inline_from_reads : (bytes : List ℕ) → IfSome (inline_from bytes) (StandsInline bytes)
inline_from_reads [] = tt
inline_from_reads (b ∷ bytes) =
    cond_both (eqb b 91) (mapped (as_value inline.Flow) (nodes_of (flow_at bytes))) _ (λ o. IfSome o (StandsInline (b ∷ bytes)))
    (λ h. IfSome-mapped (as_value inline.Flow) (nodes_of (flow_at bytes)) (StandsInline (b ∷ bytes))
    (IfSome-mapped (as_value (map Scalar)) (flow_at bytes) (λ f. StandsInline (b ∷ bytes) (inline.Flow f.0, f.1))
    (IfSome_then (flow_at bytes) (flow_reads bytes) (λ f (written, e, is).
    (91 ∷ written, ap (λ c. c ∷ bytes) (eqb-true b 91 h) ∙ ap (λ x. 91 ∷ x) e, (f.0, refl, is))))))
    (λ no'. cond_both (eqb b 123) (mapped (λ rest. (inline.Braces, rest)) (brace_from (skip bytes))) _ (λ o. IfSome o (StandsInline (b ∷ bytes)))
    (λ h. IfSome-mapped (λ rest. (inline.Braces, rest)) (brace_from (skip bytes)) (StandsInline (b ∷ bytes))
    (let r = skip_reads bytes in
    IfSome_then (brace_from (skip bytes)) (brace_reads r.0 bytes (skip bytes) r.1) (λ rest (written, e, is).
    (written, ap (λ c. c ∷ bytes) (eqb-true b 123 h) ∙ e, is))))
    (λ no''. IfSome-mapped (as_value inline.Scalar) (scalar_at (b ∷ bytes)) (StandsInline (b ∷ bytes)) (scalar_reads (b ∷ bytes))))

pub inline_reads : (bytes : List ℕ) → IfSome (inline_at bytes) (StandsInline bytes)
unfolding inline_at
inline_reads bytes = inline_from_reads bytes
