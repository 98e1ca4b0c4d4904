-- Scalars are read exactly where they are written.
use Rattle.std.proofs.Common.{◌≡◌, ℕ, Bool, true, false, cond, eqb, List, [], ◌∷◌, ◌++◌, length, take, drop, Option, Some, None, refl, sym, ap, ◌∙◌, ◌||◌, not, ◌⊎◌, ⊎_elim, inl, inr, append_assoc}
use Rattle.std.specs.Option.{IfSome}
use Rattle.std.specs.Prelude.{flat_map}
use Rattle.std.specs.List.{list_any}
use Rattle.std.proofs.Math.Seq.{drop-append_seam, take-append_seam}
use Rattle.std.proofs.lemmas.List.{take-append-drop}
use Rattle.std.proofs.lemmas.Option.{IfSome_then}
use Rattle.std.proofs.lemmas.Bool.{cond_both, cond-true, cond-false, cases_Bool, false≢true, and_parts, or_cases, or_parts, or_from, eqb-true, not_from_false}
use Rattle.ct_yaml.specs.Line.{is_indicator, is_plain, is_flow_mark, is_flow_plain, doubled, IsEscape, StandsFor, IsQuoted, IsScalar, IsFlowScalar}
use Rattle.ct_yaml.specs.Reading.{Found, onto, single_at, quote_at, meaning_of, meant, double_at, escape_at, is_stop, plain_len, cut, is_flow_stop, flow_len, scalar_by, scalar_at, flow_scalar_at}
use Rattle.ct_yaml.proofs.Scan.{not_false, other_byte, plain_parts, plain_len_at, flow_len_at}

pub IfSome-onto : {A : Type 0} (front : List A) (found : Found (List A)) (P : List A × List ℕ → Type 0)
    → IfSome found (λ f. P (front ++ f.0, f.1)) → IfSome (onto front found) P
IfSome-onto front None P h = tt
IfSome-onto front (Some f) P h = h

-- the bytes begin with no single quote
abbrev pub IsNoQuote : List ℕ → Type 0
IsNoQuote [] = Unit {0}
IsNoQuote (byte ∷ bytes) = eqb byte 39 ≡ false

-- ---- single quotes

pub single_again : (text rest : List ℕ) → IsNoQuote rest → single_at (flat_map doubled text ++ 39 ∷ rest) ≡ Some (text, rest)
single_again [] [] h = refl
single_again [] (b ∷ bs) h = cond-false (eqb b 39) (onto (39 ∷ []) (single_at bs)) (Some ([], b ∷ bs)) h
single_again (b ∷ text) rest h =
    let more : List ℕ = flat_map doubled text ++ 39 ∷ rest in
    ⊎_elim
    (λ e. ap (λ d. single_at ((d ++ flat_map doubled text) ++ 39 ∷ rest)) (cond-true (eqb b 39) (39 ∷ 39 ∷ []) (b ∷ []) e)
    ∙ ap (onto (39 ∷ [])) (single_again text rest h) ∙ ap (λ c. Some (c ∷ text, rest)) (sym (eqb-true b 39 e)))
    (λ e. ap (λ d. single_at ((d ++ flat_map doubled text) ++ 39 ∷ rest)) (cond-false (eqb b 39) (39 ∷ 39 ∷ []) (b ∷ []) e)
    ∙ cond-false (eqb b 39) (quote_at more) (onto (b ∷ []) (single_at more)) e
    ∙ ap (onto (b ∷ [])) (single_again text rest h))
    (cases_Bool (eqb b 39))

mutual
  pub single_reads : (bytes : List ℕ) → IfSome (single_at bytes) (λ f. bytes ≡ flat_map doubled f.0 ++ 39 ∷ f.1)
  single_reads [] = tt
  single_reads (b ∷ bytes) =
      cond_both (eqb b 39) (quote_at bytes) (onto (b ∷ []) (single_at bytes)) (λ o. IfSome o (λ f. b ∷ bytes ≡ flat_map doubled f.0 ++ 39 ∷ f.1))
      (λ e. IfSome_then (quote_at bytes) (quote_reads bytes) (λ f h. ap (λ c. c ∷ bytes) (eqb-true b 39 e) ∙ h))
      (λ e. IfSome-onto (b ∷ []) (single_at bytes) (λ f. b ∷ bytes ≡ flat_map doubled f.0 ++ 39 ∷ f.1)
      (IfSome_then (single_at bytes) (single_reads bytes) (λ f h.
      ap (λ x. b ∷ x) h ∙ ap (λ d. (d ++ flat_map doubled f.0) ++ 39 ∷ f.1) (sym (cond-false (eqb b 39) (39 ∷ 39 ∷ []) (b ∷ []) e)))))

  pub quote_reads : (bytes : List ℕ) → IfSome (quote_at bytes) (λ f. 39 ∷ bytes ≡ flat_map doubled f.0 ++ 39 ∷ f.1)
  quote_reads [] = refl
  quote_reads (b ∷ bytes) =
      cond_both (eqb b 39) (onto (39 ∷ []) (single_at bytes)) (Some ([], b ∷ bytes)) (λ o. IfSome o (λ f. 39 ∷ b ∷ bytes ≡ flat_map doubled f.0 ++ 39 ∷ f.1))
      (λ e. IfSome-onto (39 ∷ []) (single_at bytes) (λ f. 39 ∷ b ∷ bytes ≡ flat_map doubled f.0 ++ 39 ∷ f.1)
      (IfSome_then (single_at bytes) (single_reads bytes) (λ f h. ap (λ x. 39 ∷ b ∷ x) h ∙ ap (λ c. 39 ∷ c ∷ flat_map doubled f.0 ++ 39 ∷ f.1) (eqb-true b 39 e))))
      (λ e. refl)

-- ---- double quotes

meaning_again : (letter meaning : ℕ) → IsEscape letter meaning → meaning_of letter ≡ Some meaning
meaning_again letter meaning (inl e) = ap meaning_of e.0 ∙ ap Some (sym e.1)
meaning_again letter meaning (inr (inl e)) = ap meaning_of e.0 ∙ ap Some (sym e.1)
meaning_again letter meaning (inr (inr (inl e))) = ap meaning_of e.0 ∙ ap Some (sym e.1)
meaning_again letter meaning (inr (inr (inr e))) = ap meaning_of e.0 ∙ ap Some (sym e.1)

meaning_reads : (letter : ℕ) → IfSome (meaning_of letter) (IsEscape letter)
meaning_reads letter =
    cond_both ((eqb letter 92) || (eqb letter 34)) (Some letter) _ (λ o. IfSome o (IsEscape letter))
    (λ h. ⊎_elim (λ e. inl (eqb-true letter 92 e, eqb-true letter 92 e)) (λ e. inr (inl (eqb-true letter 34 e, eqb-true letter 34 e)))
    (or_cases (eqb letter 92) (eqb letter 34) h))
    (λ no. cond_both (eqb letter 110) (Some 10) _ (λ o. IfSome o (IsEscape letter))
    (λ e. inr (inr (inl (eqb-true letter 110 e, refl))))
    (λ no'. cond_both (eqb letter 116) (Some 9) None (λ o. IfSome o (IsEscape letter))
    (λ e. inr (inr (inr (eqb-true letter 116 e, refl))))
    (λ no''. tt)))

pub double_again : (text inner rest : List ℕ) → StandsFor inner text → double_at (inner ++ 34 ∷ rest) ≡ Some (text, rest)
double_again [] inner rest h = ap (λ x. double_at (x ++ 34 ∷ rest)) h
double_again (b ∷ text) inner rest (more, h, form) =
    ⊎_elim
    (λ plain.
    let is = or_parts (eqb b 34) (eqb b 92) (not_false _ plain.1) in
    ap (λ x. double_at (x ++ 34 ∷ rest)) plain.0
    ∙ cond-false (eqb b 34) (Some ([], more ++ 34 ∷ rest)) _ is.0
    ∙ cond-false (eqb b 92) (escape_at (more ++ 34 ∷ rest)) (onto (b ∷ []) (double_at (more ++ 34 ∷ rest))) is.1
    ∙ ap (onto (b ∷ [])) (double_again text more rest h))
    (λ (letter, e, meaning).
    ap (λ x. double_at (x ++ 34 ∷ rest)) e
    ∙ ap (λ m. meant m (double_at (more ++ 34 ∷ rest))) (meaning_again letter b meaning)
    ∙ ap (onto (b ∷ [])) (double_again text more rest h))
    form

-- the bytes before a closing double quote stand for what is read
abbrev ClosesDouble : List ℕ → List ℕ × List ℕ → Type 0
ClosesDouble bytes f = (inner : List ℕ) × (bytes ≡ inner ++ 34 ∷ f.1) × StandsFor inner f.0

meant_reads : (letter : ℕ) (bytes : List ℕ) (m : Option ℕ) → IfSome m (IsEscape letter) → (found : Found (List ℕ)) → IfSome found (ClosesDouble bytes)
    → IfSome (meant m found) (ClosesDouble (92 ∷ letter ∷ bytes))
meant_reads letter bytes None is found h = tt
meant_reads letter bytes (Some b) is found h =
    IfSome-onto (b ∷ []) found (ClosesDouble (92 ∷ letter ∷ bytes))
    (IfSome_then found h (λ f (inner, e, stands). (92 ∷ letter ∷ inner, ap (λ x. 92 ∷ letter ∷ x) e, (inner, stands, inr (letter, refl, is)))))

mutual
  pub double_reads : (bytes : List ℕ) → IfSome (double_at bytes) (ClosesDouble bytes)
  double_reads [] = tt
  double_reads (b ∷ bytes) =
      cond_both (eqb b 34) (Some ([], bytes)) _ (λ o. IfSome o (ClosesDouble (b ∷ bytes)))
      (λ e. ([], ap (λ c. c ∷ bytes) (eqb-true b 34 e), refl))
      (λ no. cond_both (eqb b 92) (escape_at bytes) (onto (b ∷ []) (double_at bytes)) (λ o. IfSome o (ClosesDouble (b ∷ bytes)))
      (λ e. IfSome_then (escape_at bytes) (escape_reads bytes) (λ f (inner, is, stands). (inner, ap (λ c. c ∷ bytes) (eqb-true b 92 e) ∙ is, stands)))
      (λ no'. IfSome-onto (b ∷ []) (double_at bytes) (ClosesDouble (b ∷ bytes))
      (IfSome_then (double_at bytes) (double_reads bytes) (λ f (inner, e, stands).
      (b ∷ inner, ap (λ x. b ∷ x) e, (inner, stands, inl (refl, not_from_false _ (or_from (eqb b 34) (eqb b 92) no no'))))))))

  pub escape_reads : (bytes : List ℕ) → IfSome (escape_at bytes) (ClosesDouble (92 ∷ bytes))
  escape_reads [] = tt
  escape_reads (letter ∷ bytes) = meant_reads letter bytes (meaning_of letter) (meaning_reads letter) (double_at bytes) (double_reads bytes)

-- ---- scalars

quoted_again : (plain : List ℕ → Found (List ℕ)) (written text rest : List ℕ) → IsQuoted written text → IsNoQuote rest
    → scalar_by plain (written ++ rest) ≡ Some (text, rest)
quoted_again plain written text rest (inl e) h =
    ap (λ w. scalar_by plain (w ++ rest)) e ∙ ap single_at (append_assoc (flat_map doubled text) (39 ∷ []) rest) ∙ single_again text rest h
quoted_again plain written text rest (inr (inner, e, stands)) h =
    ap (λ w. scalar_by plain (w ++ rest)) e ∙ ap double_at (append_assoc inner (34 ∷ []) rest) ∙ double_again text inner rest stands

cut_again : (is_good : List ℕ → Bool) (n : ℕ) (text rest : List ℕ) → n ≡ length text → is_good text ≡ true → cut is_good n (text ++ rest) ≡ Some (text, rest)
cut_again is_good n text rest e good =
    ap (λ k. cut is_good k (text ++ rest)) e
    ∙ ap (λ t. cond (is_good t) (Some (t, drop (length text) (text ++ rest))) None) (take-append_seam text rest)
    ∙ ap (λ d. cond (is_good text) (Some (text, d)) None) (drop-append_seam text rest)
    ∙ cond-true (is_good text) (Some (text, rest)) None good

-- a text that is no quoted scalar is read as a plain one
plain_first : (plain : List ℕ → Found (List ℕ)) (b : ℕ) (bytes : List ℕ) → is_indicator b ≡ false → scalar_by plain (b ∷ bytes) ≡ plain (b ∷ bytes)
plain_first plain b bytes h =
    cond-false (eqb b 39) (single_at bytes) _ (other_byte is_indicator b 39 h refl)
    ∙ cond-false (eqb b 34) (double_at bytes) (plain (b ∷ bytes)) (other_byte is_indicator b 34 h refl)

stop_no_quote : (rest : List ℕ) → is_stop false rest ≡ true → IsNoQuote rest
stop_no_quote [] h = tt
stop_no_quote (b ∷ bs) h = other_byte' b bs h
  where
    other_byte' : (b : ℕ) (bs : List ℕ) → is_stop false (b ∷ bs) ≡ true → eqb b 39 ≡ false
    other_byte' b bs h = ⊎_elim (λ e. absurd (false≢true (ap (λ c. is_stop false (c ∷ bs)) (sym (eqb-true b 39 e)) ∙ h))) (λ e. e) (cases_Bool (eqb b 39))

flow_stop_no_quote : (rest : List ℕ) → is_flow_stop rest ≡ true → IsNoQuote rest
flow_stop_no_quote [] h = tt
flow_stop_no_quote (b ∷ bs) h =
    ⊎_elim (λ e. absurd (false≢true (ap (λ c. is_flow_stop (c ∷ bs)) (sym (eqb-true b 39 e)) ∙ h))) (λ e. e) (cases_Bool (eqb b 39))

plain_again : (text rest : List ℕ) → is_plain text ≡ true → is_stop false rest ≡ true → scalar_at (text ++ rest) ≡ Some (text, rest)
unfolding scalar_at
plain_again [] rest h stop = absurd (false≢true h)
plain_again (b ∷ u) rest h stop =
    let p = plain_parts b u h in
    plain_first (λ all. cut is_plain (plain_len false all) all) b (u ++ rest) p.indicator
    ∙ cut_again is_plain (plain_len false (b ∷ u ++ rest)) (b ∷ u) rest (plain_len_at false b u rest refl p.tail stop) h

quoted_scalar_again : (written text rest : List ℕ) → IsQuoted written text → is_stop false rest ≡ true → scalar_at (written ++ rest) ≡ Some (text, rest)
unfolding scalar_at
quoted_scalar_again written text rest q stop =
    quoted_again (λ all. cut is_plain (plain_len false all) all) written text rest q (stop_no_quote rest stop)

pub scalar_again : (written text rest : List ℕ) → IsScalar written text → is_stop false rest ≡ true → scalar_at (written ++ rest) ≡ Some (text, rest)
scalar_again written text rest (inl (e, plain)) stop = ap (λ w. scalar_at (w ++ rest)) e ∙ plain_again text rest plain stop
scalar_again written text rest (inr q) stop = quoted_scalar_again written text rest q stop

flow_plain_again : (text rest : List ℕ) → is_flow_plain text ≡ true → is_flow_stop rest ≡ true → flow_scalar_at (text ++ rest) ≡ Some (text, rest)
unfolding flow_scalar_at
flow_plain_again [] rest h stop = absurd (false≢true h)
flow_plain_again (b ∷ u) rest h stop =
    let both = and_parts (is_plain (b ∷ u)) (not (list_any is_flow_mark (b ∷ u))) h in
    let p = plain_parts b u both.0 in
    plain_first (λ all. cut is_flow_plain (flow_len all) all) b (u ++ rest) p.indicator
    ∙ cut_again is_flow_plain (flow_len (b ∷ u ++ rest)) (b ∷ u) rest (flow_len_at b u rest (not_false _ both.1) p.tail stop) h

quoted_flow_again : (written text rest : List ℕ) → IsQuoted written text → is_flow_stop rest ≡ true → flow_scalar_at (written ++ rest) ≡ Some (text, rest)
unfolding flow_scalar_at
quoted_flow_again written text rest q stop =
    quoted_again (λ all. cut is_flow_plain (flow_len all) all) written text rest q (flow_stop_no_quote rest stop)

pub flow_scalar_again : (written text rest : List ℕ) → IsFlowScalar written text → is_flow_stop rest ≡ true → flow_scalar_at (written ++ rest) ≡ Some (text, rest)
flow_scalar_again written text rest (inl (e, plain)) stop = ap (λ w. flow_scalar_at (w ++ rest)) e ∙ flow_plain_again text rest plain stop
flow_scalar_again written text rest (inr q) stop = quoted_flow_again written text rest q stop

-- ---- what is read is written so

-- a scalar stands at the front, plain ones by this test
abbrev Stands : (List ℕ → Bool) → List ℕ → List ℕ × List ℕ → Type 0
Stands is_good bytes f = (written : List ℕ) × (bytes ≡ written ++ f.1) × (((written ≡ f.0) × (is_good f.0 ≡ true)) ⊎ IsQuoted written f.0)

cut_reads : (is_good : List ℕ → Bool) (n : ℕ) (bytes : List ℕ) → IfSome (cut is_good n bytes) (Stands is_good bytes)
cut_reads is_good n bytes =
    cond_both (is_good (take n bytes)) (Some (take n bytes, drop n bytes)) None (λ o. IfSome o (Stands is_good bytes))
    (λ good. (take n bytes, sym (take-append-drop n bytes), inl (refl, good))) (λ bad. tt)

by_reads : (is_good : List ℕ → Bool) (len : List ℕ → ℕ) (bytes : List ℕ) → IfSome (scalar_by (λ all. cut is_good (len all) all) bytes) (Stands is_good bytes)
by_reads is_good len [] = tt
by_reads is_good len (b ∷ bytes) =
    cond_both (eqb b 39) (single_at bytes) _ (λ o. IfSome o (Stands is_good (b ∷ bytes)))
    (λ e. IfSome_then (single_at bytes) (single_reads bytes) (λ f h.
    (39 ∷ flat_map doubled f.0 ++ 39 ∷ [], ap (λ c. c ∷ bytes) (eqb-true b 39 e) ∙ ap (λ x. 39 ∷ x) (h ∙ sym (append_assoc (flat_map doubled f.0) (39 ∷ []) f.1)), inr (inl refl))))
    (λ no. cond_both (eqb b 34) (double_at bytes) (cut is_good (len (b ∷ bytes)) (b ∷ bytes)) (λ o. IfSome o (Stands is_good (b ∷ bytes)))
    (λ e. IfSome_then (double_at bytes) (double_reads bytes) (λ f (inner, h, stands).
    (34 ∷ inner ++ 34 ∷ [], ap (λ c. c ∷ bytes) (eqb-true b 34 e) ∙ ap (λ x. 34 ∷ x) (h ∙ sym (append_assoc inner (34 ∷ []) f.1)), inr (inr (inner, refl, stands)))))
    (λ no'. cut_reads is_good (len (b ∷ bytes)) (b ∷ bytes)))

pub scalar_reads : (bytes : List ℕ) → IfSome (scalar_at bytes) (λ f. (written : List ℕ) × (bytes ≡ written ++ f.1) × IsScalar written f.0)
unfolding scalar_at
scalar_reads bytes = by_reads is_plain (plain_len false) bytes

pub flow_scalar_reads : (bytes : List ℕ) → IfSome (flow_scalar_at bytes) (λ f. (written : List ℕ) × (bytes ≡ written ++ f.1) × IsFlowScalar written f.0)
unfolding flow_scalar_at
flow_scalar_reads bytes = by_reads is_flow_plain flow_len bytes
