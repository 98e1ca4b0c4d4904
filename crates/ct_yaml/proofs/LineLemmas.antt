-- Lines are read exactly where they are written.
use Rattle.std.proofs.Common.{◌≡◌, ℕ, zero, suc, ◌+◌, Bool, true, false, eqb, List, [], ◌∷◌, ◌++◌, Some, None, refl, sym, ap, ◌∙◌, subst, ◌&&◌, ◌||◌, ⊎_elim, inl, inr, append_assoc, arith}
use Rattle.std.specs.Option.{IfSome}
use Rattle.std.proofs.lemmas.Option.{IfSome_then}
use Rattle.std.proofs.lemmas.Bool.{cond_both, cond-true, cond-false, cases_Bool, false≢true, and_parts, and_left, or_cases, or_from, or_left, not_from_false, eqb-true}
use Rattle.ct_yaml.specs.declared.mark.Inline.{Inline}
use Rattle.ct_yaml.specs.declared.mark.Inline.TheVariants as inline
use Rattle.ct_yaml.specs.declared.mark.Mark.{Mark}
use Rattle.ct_yaml.specs.declared.mark.Mark.TheVariants.{Dash, Key, Value}
use Rattle.ct_yaml.specs.Line.{is_rest, is_end, is_gap, spaces, IsScalar, IsInline, IsAtMostValue, IsLineFrom, IsOpened, IsLine, has_tab_indent}
use Rattle.ct_yaml.specs.Reading.{then_read, mapped, skip, is_stop, scalar_at, inline_at, ended, value_at, key_rest, behind_scalar, last_from, last_at, line_from, opened_only, line_marks}
use Rattle.ct_yaml.proofs.Grow.{IfSome-mapped}
use Rattle.ct_yaml.proofs.Steps.{then_some}
use Rattle.ct_yaml.proofs.Scan.{and_false, not_false}
use Rattle.ct_yaml.proofs.ScalarLemmas.{scalar_again, scalar_reads}
use Rattle.ct_yaml.proofs.ValueLemmas.{skip_spaces, skip_reads, IsFront, scalar_front, inline_front, no_bracket, inline_again, StandsInline, inline_reads}

-- ---- values at the end of a line

-- what ends a line ends a plain scalar
end_stops : (rest : List ℕ) → is_end rest ≡ true → is_stop false rest ≡ true
end_stops [] h = refl
end_stops (b ∷ rest) h = or_left (is_end (b ∷ rest)) ((eqb b 58) && is_gap rest) h

pub value_again : (written rest : List ℕ) (value : Inline) → IsInline written value → is_end rest ≡ true → value_at (written ++ rest) ≡ Some (Value value ∷ [])
unfolding value_at
value_again written rest value is end =
    ap (λ o. then_read o (λ found. ended found.0 found.1)) (inline_again written rest value is (end_stops rest end))
    ∙ cond-true (is_end rest) (Some (Value value ∷ [])) None end

-- the marks are those of a value that ends the line
abbrev EndsWith : List ℕ → List Mark → Type 0
EndsWith bytes marks = (value : Inline) × (written rest : List ℕ) × (bytes ≡ written ++ rest) × IsInline written value × (is_end rest ≡ true) × (marks ≡ Value value ∷ [])

ended_reads : (bytes written rest : List ℕ) (value : Inline) → bytes ≡ written ++ rest → IsInline written value → IfSome (ended value rest) (EndsWith bytes)
ended_reads bytes written rest value e is =
    cond_both (is_end rest) (Some (Value value ∷ [])) None (λ o. IfSome o (EndsWith bytes)) (λ end. (value, written, rest, e, is, end, refl)) (λ other. tt)

value_reads : (bytes : List ℕ) → IfSome (value_at bytes) (EndsWith bytes)
unfolding value_at
value_reads bytes =
    then_some (inline_at bytes) (λ found. ended found.0 found.1) (StandsInline bytes) (EndsWith bytes) (inline_reads bytes)
    (λ f (written, e, is). ended_reads bytes written f.1 f.0 e is)

-- ---- behind spaces

-- a value behind spaces is no rest of a line that counts for nothing
value_counts : (n : ℕ) (spaced : Bool) (written rest : List ℕ) → IsFront written → is_rest spaced (spaces n ++ (written ++ rest)) ≡ false
value_counts zero spaced written rest f = ap (λ w. is_rest spaced (w ++ rest)) f.is ∙ f.counts spaced rest
value_counts (suc n) spaced written rest f = or_from (spaced && false) _ (and_false spaced) (value_counts n true written rest f)

front_skipped : (written rest : List ℕ) → IsFront written → skip (written ++ rest) ≡ written ++ rest
front_skipped written rest f =
    ap (λ w. skip (w ++ rest)) f.is ∙ cond-false (eqb f.byte 32) (skip (f.bytes ++ rest)) (f.byte ∷ f.bytes ++ rest) f.space ∙ ap (λ w. w ++ rest) (sym f.is)

key_rest_again : (column : ℕ) (bytes : List ℕ) (marks : List Mark) → IsAtMostValue marks → IsLineFrom column bytes marks → key_rest bytes ≡ Some marks
unfolding key_rest
key_rest_again column bytes [] few is = cond-true (is_end bytes) (Some []) (value_at (skip bytes)) is
key_rest_again column bytes (Dash at ∷ marks) few is = absurd few
key_rest_again column bytes (Key at key ∷ marks) few is = absurd few
key_rest_again column bytes (Value value ∷ marks) few (n, written, rest, e, is, end, none) =
    let f = inline_front written value is in
    let cut : bytes ≡ spaces n ++ (written ++ rest) = e ∙ append_assoc (spaces n) written rest in
    cond-false (is_end bytes) (Some []) (value_at (skip bytes)) (ap is_end cut ∙ value_counts n false written rest f)
    ∙ ap (λ b. value_at (skip b)) cut ∙ ap value_at (skip_spaces n (written ++ rest) ∙ front_skipped written rest f)
    ∙ value_again written rest value is end ∙ ap (λ ms. Some (Value value ∷ ms)) (sym none)

key_rest_reads : (column : ℕ) (bytes : List ℕ) → IfSome (key_rest bytes) (λ marks. IsAtMostValue marks × IsLineFrom column bytes marks)
unfolding key_rest
key_rest_reads column bytes =
    cond_both (is_end bytes) (Some []) (value_at (skip bytes)) (λ o. IfSome o (λ marks. IsAtMostValue marks × IsLineFrom column bytes marks))
    (λ end. (tt, end))
    (λ other. IfSome_then (value_at (skip bytes)) (value_reads (skip bytes)) (λ marks (value, written, rest, e, is, end, are).
    let r = skip_reads bytes in
    let P : List Mark → Type 0 = λ ms. IsAtMostValue ms × IsLineFrom column bytes ms in
    subst P (sym are) (tt, (r.0, written, rest, r.1 ∙ ap (λ x. spaces r.0 ++ x) e ∙ sym (append_assoc (spaces r.0) written rest), is, end, refl))))

-- ---- the last part of a line

colon_ends_nothing : (rest : List ℕ) → is_end (58 ∷ rest) ≡ false
colon_ends_nothing rest = refl

behind_again : (column : ℕ) (text rest : List ℕ) → is_end rest ≡ true → behind_scalar column text rest ≡ Some (Value (inline.Scalar text) ∷ [])
behind_again column text [] end = refl
behind_again column text (b ∷ rest) end =
    cond-false ((eqb b 58) && is_gap rest) (mapped (λ marks. Key column text ∷ marks) (key_rest rest)) (ended (inline.Scalar text) (b ∷ rest))
    (and_left (eqb b 58) (is_gap rest) (⊎_elim (λ e. absurd (false≢true (ap (λ c. is_end (c ∷ rest)) (sym (eqb-true b 58 e)) ∙ end))) (λ e. e) (cases_Bool (eqb b 58))))
    ∙ cond-true (is_end (b ∷ rest)) (Some (Value (inline.Scalar text) ∷ [])) None end

-- a line that goes on with a scalar
scalar_last : (column : ℕ) (written rest text : List ℕ) → IsScalar written text → is_stop false rest ≡ true → last_at column (written ++ rest) ≡ behind_scalar column text rest
unfolding last_at
scalar_last column written rest text is stop =
    let f = no_bracket written text is in
    ap (λ w. last_from column (w ++ rest)) f.2
    ∙ cond-false ((eqb f.0 91) || (eqb f.0 123)) (value_at (f.0 ∷ f.1 ++ rest)) _ (or_from (eqb f.0 91) (eqb f.0 123) f.3 f.4)
    ∙ ap (λ w. then_read (scalar_at (w ++ rest)) (λ found. behind_scalar column found.0 found.1)) (sym f.2)
    ∙ ap (λ o. then_read o (λ found. behind_scalar column found.0 found.1)) (scalar_again written text rest is stop)

bracket_last : (column : ℕ) (written rest : List ℕ) (value : Inline) (b : ℕ) (u : List ℕ) → written ≡ b ∷ u → ((eqb b 91) || (eqb b 123)) ≡ true
    → IsInline written value → is_end rest ≡ true → last_at column (written ++ rest) ≡ Some (Value value ∷ [])
unfolding last_at
bracket_last column written rest value b u e bracket is end =
    ap (λ w. last_from column (w ++ rest)) e
    ∙ cond-true ((eqb b 91) || (eqb b 123)) (value_at (b ∷ u ++ rest)) _ bracket
    ∙ ap (λ w. value_at (w ++ rest)) (sym e)
    ∙ value_again written rest value is end

last_value_again : (column : ℕ) (written rest : List ℕ) (value : Inline) → IsInline written value → is_end rest ≡ true → last_at column (written ++ rest) ≡ Some (Value value ∷ [])
last_value_again column written rest (inline.Scalar text) is end = scalar_last column written rest text is (end_stops rest end) ∙ behind_again column text rest end
last_value_again column written rest (inline.Flow items) (texts, e, inl (n, e', none)) end =
    bracket_last column written rest (inline.Flow items) 91 (spaces n ++ 93 ∷ []) e' refl (texts, e, inl (n, e', none)) end
last_value_again column written rest (inline.Flow items) (texts, e, inr (elements, e', are)) end =
    bracket_last column written rest (inline.Flow items) 91 elements e' refl (texts, e, inr (elements, e', are)) end
last_value_again column written rest inline.Braces (n, e) end = bracket_last column written rest inline.Braces 123 (spaces n ++ 125 ∷ []) e refl (n, e) end

key_again : (column : ℕ) (written rest key : List ℕ) (marks : List Mark) → IsScalar written key → is_gap rest ≡ true → IsAtMostValue marks → IsLineFrom (column + 1) rest marks
    → last_at column (written ++ 58 ∷ rest) ≡ Some (Key column key ∷ marks)
key_again column written rest key marks is gap few line =
    scalar_last column written (58 ∷ rest) key is gap
    ∙ cond-true (is_gap rest) (mapped (λ ms. Key column key ∷ ms) (key_rest rest)) (ended (inline.Scalar key) (58 ∷ rest)) gap
    ∙ ap (mapped (λ ms. Key column key ∷ ms)) (key_rest_again (column + 1) rest marks few line)

-- ---- whole lines

-- whether a space stands before, after n more
abbrev spaced_by : ℕ → Bool → Bool
spaced_by zero spaced = spaced
spaced_by (suc n) spaced = true

spaced_again : (n : ℕ) → spaced_by n true ≡ true
spaced_again zero = refl
spaced_again (suc n) = refl

line_spaces : (n : ℕ) (spaced : Bool) (column : ℕ) (bytes : List ℕ) → line_from spaced column (spaces n ++ bytes) ≡ line_from (spaced_by n spaced) (column + n) bytes
line_spaces zero spaced column bytes = let e : column ≡ column + 0 = omega arith in ap (λ c. line_from spaced c bytes) e
line_spaces (suc n) spaced column bytes =
    let e : column + 1 + n ≡ column + suc n = omega arith in
    line_spaces n true (column + 1) bytes
    ∙ ap (λ s. line_from s (column + 1 + n) bytes) (spaced_again n)
    ∙ ap (λ c. line_from true c bytes) e

line_front : (spaced : Bool) (column : ℕ) (written rest : List ℕ) → IsFront written → line_from spaced column (written ++ rest) ≡ last_at column (written ++ rest)
line_front spaced column written rest f =
    let bytes : List ℕ = f.bytes ++ rest in
    ap (λ w. line_from spaced column (w ++ rest)) f.is
    ∙ cond-false (eqb f.byte 32) (line_from true (column + 1) bytes) _ f.space
    ∙ cond-false (is_rest spaced (f.byte ∷ bytes)) (Some []) _ (f.counts spaced rest)
    ∙ cond-false ((eqb f.byte 45) && is_gap bytes) (mapped (λ marks. Dash column ∷ marks) (line_from false (column + 1) bytes)) (last_at column (f.byte ∷ bytes)) (f.dash rest)
    ∙ ap (λ w. last_at column (w ++ rest)) (sym f.is)

line_rest : (bytes : List ℕ) (spaced : Bool) (column : ℕ) → is_rest spaced bytes ≡ true → line_from spaced column bytes ≡ Some []
line_rest [] spaced column h = refl
line_rest (b ∷ bytes) spaced column h =
    ⊎_elim
    (λ e. cond-true (eqb b 32) (line_from true (column + 1) bytes) _ e
    ∙ line_rest bytes true (column + 1)
    (⊎_elim (λ x. absurd (false≢true (sym (and_false spaced) ∙ x))) (λ x. x)
    (or_cases (spaced && false) (is_rest true bytes) (ap (λ c. is_rest spaced (c ∷ bytes)) (sym (eqb-true b 32 e)) ∙ h))))
    (λ e. cond-false (eqb b 32) (line_from true (column + 1) bytes) _ e ∙ cond-true (is_rest spaced (b ∷ bytes)) (Some []) _ h)
    (cases_Bool (eqb b 32))

dash_again : (spaced : Bool) (column : ℕ) (rest : List ℕ) → is_gap rest ≡ true
    → line_from spaced column (45 ∷ rest) ≡ mapped (λ marks. Dash column ∷ marks) (line_from false (column + 1) rest)
dash_again spaced column rest gap =
    cond-false (is_rest spaced (45 ∷ rest)) (Some []) _ (or_from (spaced && false) false (and_false spaced) refl)
    ∙ cond-true (is_gap rest) (mapped (λ marks. Dash column ∷ marks) (line_from false (column + 1) rest)) (last_at column (45 ∷ rest)) gap

line_again : (marks : List Mark) (column : ℕ) (bytes : List ℕ) → IsLineFrom column bytes marks → line_from false column bytes ≡ Some marks
line_again [] column bytes is = line_rest bytes false column is
line_again (Value value ∷ marks) column bytes (n, written, rest, e, is, end, none) =
    ap (line_from false column) (e ∙ append_assoc (spaces n) written rest)
    ∙ line_spaces n false column (written ++ rest)
    ∙ line_front (spaced_by n false) (column + n) written rest (inline_front written value is)
    ∙ last_value_again (column + n) written rest value is end
    ∙ ap (λ ms. Some (Value value ∷ ms)) (sym none)
line_again (Key at key ∷ marks) column bytes (n, written, rest, e, where_it_is, is, gap, few, line) =
    ap (line_from false column) (e ∙ append_assoc (spaces n) written (58 ∷ rest))
    ∙ line_spaces n false column (written ++ 58 ∷ rest)
    ∙ line_front (spaced_by n false) (column + n) written (58 ∷ rest) (scalar_front written key is)
    ∙ ap (λ c. last_at c (written ++ 58 ∷ rest)) (sym where_it_is)
    ∙ key_again at written rest key marks is gap few line
line_again (Dash at ∷ marks) column bytes (n, rest, e, where_it_is, gap, line) =
    ap (line_from false column) e
    ∙ line_spaces n false column (45 ∷ rest)
    ∙ ap (λ c. line_from (spaced_by n false) c (45 ∷ rest)) (sym where_it_is)
    ∙ dash_again (spaced_by n false) at rest gap
    ∙ ap (mapped (λ ms. Dash at ∷ ms)) (line_again marks (at + 1) rest line)

opened_again : (marks : List Mark) → IsOpened marks → opened_only marks ≡ Some marks
opened_again [] h = refl
opened_again (Value value ∷ marks) h = absurd h
opened_again (Key column key ∷ marks) h = refl
opened_again (Dash column ∷ marks) h = refl

pub line_marks_again : (line : List ℕ) (marks : List Mark) → IsLine line marks → line_marks line ≡ Some marks
unfolding line_marks
line_marks_again line marks (tab, opened, is) =
    cond-false (has_tab_indent line) None (then_read (line_from false 0 line) opened_only) (not_false _ tab)
    ∙ ap (λ o. then_read o opened_only) (line_again marks 0 line is)
    ∙ opened_again marks opened

-- ---- what is read is written so

rest_spaces : (n : ℕ) (bytes : List ℕ) → is_rest (spaced_by n false) bytes ≡ is_end (spaces n ++ bytes)
rest_spaces zero bytes = refl
rest_spaces (suc n) bytes = sym (behind n bytes)
  where
    behind : (n : ℕ) (bytes : List ℕ) → is_rest true (spaces n ++ bytes) ≡ is_rest true bytes
    behind zero bytes = refl
    behind (suc n) bytes = behind n bytes

spaces_shift : (n : ℕ) (bytes : List ℕ) → spaces (suc n) ++ bytes ≡ spaces n ++ 32 ∷ bytes
spaces_shift zero bytes = refl
spaces_shift (suc n) bytes = ap (λ x. 32 ∷ x) (spaces_shift n bytes)

value_line : (column n : ℕ) (bytes : List ℕ) (marks : List Mark) → EndsWith bytes marks → IsLineFrom column (spaces n ++ bytes) marks
value_line column n bytes marks (value, written, rest, e, is, end, are) =
    subst (IsLineFrom column (spaces n ++ bytes)) (sym are) (n, written, rest, ap (λ x. spaces n ++ x) e ∙ sym (append_assoc (spaces n) written rest), is, end, refl)

behind_reads : (first n column : ℕ) (bytes written text rest : List ℕ) → column ≡ first + n → bytes ≡ written ++ rest → IsScalar written text
    → IfSome (behind_scalar column text rest) (IsLineFrom first (spaces n ++ bytes))
behind_reads first n column bytes written text [] at e is =
    value_line first n bytes (Value (inline.Scalar text) ∷ []) (inline.Scalar text, written, [], e, is, refl, refl)
behind_reads first n column bytes written text (b ∷ rest) at e is =
    cond_both ((eqb b 58) && is_gap rest) (mapped (λ marks. Key column text ∷ marks) (key_rest rest)) (ended (inline.Scalar text) (b ∷ rest))
    (λ o. IfSome o (IsLineFrom first (spaces n ++ bytes)))
    (λ h. let both = and_parts (eqb b 58) (is_gap rest) h in
    IfSome-mapped (λ marks. Key column text ∷ marks) (key_rest rest) (IsLineFrom first (spaces n ++ bytes))
    (IfSome_then (key_rest rest) (key_rest_reads (column + 1) rest) (λ marks k. (
      n,
      written,
      rest,
      ap (λ x. spaces n ++ x) (e ∙ ap (λ c. written ++ c ∷ rest) (eqb-true b 58 both.0)) ∙ sym (append_assoc (spaces n) written (58 ∷ rest)),
      at,
      is,
      both.1,
      k.0,
      k.1,
    ))))
    (λ other. IfSome_then (ended (inline.Scalar text) (b ∷ rest)) (ended_reads bytes written (b ∷ rest) (inline.Scalar text) e is) (λ marks h. value_line first n bytes marks h))

last_reads : (first n column : ℕ) (bytes : List ℕ) → column ≡ first + n → IfSome (last_from column bytes) (IsLineFrom first (spaces n ++ bytes))
last_reads first n column [] at = tt
last_reads first n column (b ∷ bytes) at =
    cond_both ((eqb b 91) || (eqb b 123)) (value_at (b ∷ bytes)) _ (λ o. IfSome o (IsLineFrom first (spaces n ++ b ∷ bytes)))
    (λ h. IfSome_then (value_at (b ∷ bytes)) (value_reads (b ∷ bytes)) (λ marks k. value_line first n (b ∷ bytes) marks k))
    (λ other. then_some (scalar_at (b ∷ bytes)) (λ found. behind_scalar column found.0 found.1)
    (λ f. (written : List ℕ) × (b ∷ bytes ≡ written ++ f.1) × IsScalar written f.0) (IsLineFrom first (spaces n ++ b ∷ bytes))
    (scalar_reads (b ∷ bytes)) (λ f (written, e, is). behind_reads first n column (b ∷ bytes) written f.0 f.1 at e is))

last_at_reads : (first n column : ℕ) (bytes : List ℕ) → column ≡ first + n → IfSome (last_at column bytes) (IsLineFrom first (spaces n ++ bytes))
unfolding last_at
last_at_reads first n column bytes at = last_reads first n column bytes at

line_reads : (bytes : List ℕ) (spaced : Bool) (first n column : ℕ) → column ≡ first + n → spaced ≡ spaced_by n false
    → IfSome (line_from spaced column bytes) (IsLineFrom first (spaces n ++ bytes))
line_reads [] spaced first n column at s = sym (rest_spaces n [])
line_reads (b ∷ bytes) spaced first n column at s =
    cond_both (eqb b 32) (line_from true (column + 1) bytes) _ (λ o. IfSome o (IsLineFrom first (spaces n ++ b ∷ bytes)))
    (λ e. IfSome_then (line_from true (column + 1) bytes) (line_reads bytes true first (suc n) (column + 1) (omega arith) refl) (λ marks h.
    subst (λ x. IsLineFrom first x marks) (spaces_shift n bytes ∙ ap (λ c. spaces n ++ c ∷ bytes) (sym (eqb-true b 32 e))) h))
    (λ other. cond_both (is_rest spaced (b ∷ bytes)) (Some []) _ (λ o. IfSome o (IsLineFrom first (spaces n ++ b ∷ bytes)))
    (λ h. sym (rest_spaces n (b ∷ bytes)) ∙ ap (λ x. is_rest x (b ∷ bytes)) (sym s) ∙ h)
    (λ counts. cond_both ((eqb b 45) && is_gap bytes) (mapped (λ marks. Dash column ∷ marks) (line_from false (column + 1) bytes)) (last_at column (b ∷ bytes))
    (λ o. IfSome o (IsLineFrom first (spaces n ++ b ∷ bytes)))
    (λ h. let both = and_parts (eqb b 45) (is_gap bytes) h in
    IfSome-mapped (λ marks. Dash column ∷ marks) (line_from false (column + 1) bytes) (IsLineFrom first (spaces n ++ b ∷ bytes))
    (IfSome_then (line_from false (column + 1) bytes) (line_reads bytes false (column + 1) 0 (column + 1) (omega arith) refl) (λ marks k.
    (n, bytes, ap (λ c. spaces n ++ c ∷ bytes) (eqb-true b 45 both.0), at, both.1, k))))
    (λ last. last_at_reads first n column (b ∷ bytes) at)))

opened_reads : (line : List ℕ) (marks : List Mark) → IsLineFrom 0 line marks → has_tab_indent line ≡ false → IfSome (opened_only marks) (IsLine line)
opened_reads line [] h tab = (not_from_false _ tab, tt, h)
opened_reads line (Value value ∷ marks) h tab = tt
opened_reads line (Key column key ∷ marks) h tab = (not_from_false _ tab, tt, h)
opened_reads line (Dash column ∷ marks) h tab = (not_from_false _ tab, tt, h)

pub line_marks_reads : (line : List ℕ) → IfSome (line_marks line) (IsLine line)
unfolding line_marks
line_marks_reads line =
    cond_both (has_tab_indent line) None (then_read (line_from false 0 line) opened_only) (λ o. IfSome o (IsLine line))
    (λ tab. tt)
    (λ tab. then_some (line_from false 0 line) opened_only (IsLineFrom 0 line) (IsLine line) (line_reads line false 0 0 0 refl refl)
    (λ marks h. opened_reads line marks h tab))

-- ---- `---` and `...` are no lines of a tree

bare_line : (written rest : List ℕ) → IsScalar written written → is_end rest ≡ true → has_tab_indent (written ++ rest) ≡ false → line_marks (written ++ rest) ≡ None
unfolding line_marks
bare_line written rest is end tab =
    cond-false (has_tab_indent (written ++ rest)) None (then_read (line_from false 0 (written ++ rest)) opened_only) tab
    ∙ ap (λ o. then_read o opened_only) (line_front false 0 written rest (scalar_front written written is) ∙ last_value_again 0 written rest (inline.Scalar written) is end)

pub dashes_bare : (rest : List ℕ) → is_end rest ≡ true → line_marks (45 ∷ 45 ∷ 45 ∷ rest) ≡ None
dashes_bare rest end = bare_line (45 ∷ 45 ∷ 45 ∷ []) rest (inl (refl, refl)) end refl

pub dots_bare : (rest : List ℕ) → is_end rest ≡ true → line_marks (46 ∷ 46 ∷ 46 ∷ rest) ≡ None
dots_bare rest end = bare_line (46 ∷ 46 ∷ 46 ∷ []) rest (inl (refl, refl)) end refl
