-- Where plain scalars end.
use Rattle.std.proofs.Common.{◌≡◌, ℕ, zero, suc, Bool, true, false, eqb, List, [], ◌∷◌, ◌++◌, length, refl, sym, ap, ◌∙◌, subst, ◌&&◌, not, ⊎_elim}
use Rattle.std.specs.List.{list_any}
use Rattle.std.proofs.lemmas.Bool.{cond-true, cond-false, false≢true, and_parts, and_cases, and_left, and_right, or_parts, or_from, ne_eqb}
use Rattle.ct_base.specs.Bytes.{has_pair}
use Rattle.ct_yaml.specs.Line.{is_blank, is_rest, is_end, is_gap, is_indicator, is_dash_or_question, begins_plain, ends_plain, is_plain, is_flow_mark}
use Rattle.ct_yaml.specs.Reading.{is_stop, plain_len, is_flow_stop, flow_len}

-- ---- small words

pub not_false : (b : Bool) → not b ≡ true → b ≡ false
not_false true h = sym h
not_false false h = refl

pub and_false : (s : Bool) → (s && false) ≡ false
and_false true = refl
and_false false = refl

-- a byte that is not another
pub other_byte : (f : ℕ → Bool) (b k : ℕ) → f b ≡ false → f k ≡ true → eqb b k ≡ false
other_byte f b k isnt is =
    ne_eqb b k (λ e. let P : ℕ → Type 0 = λ x. f x ≡ false in false≢true (sym (subst P e isnt) ∙ is))

-- ---- the tail of a plain scalar

pub record IsTail (byte : ℕ) (bytes : List ℕ) : Type 0 where
  pub colon : has_pair 58 32 (byte ∷ bytes) ≡ false
  pub hash : has_pair 32 35 (byte ∷ bytes) ≡ false
  pub end : ends_plain (byte ∷ bytes) ≡ true

tail_tail : (b c : ℕ) (u : List ℕ) → IsTail b (c ∷ u) → IsTail c u
tail_tail b c u t = record {
  colon = (or_parts ((eqb b 58) && (eqb c 32)) (has_pair 58 32 (c ∷ u)) t.colon).1;
  hash = (or_parts ((eqb b 32) && (eqb c 35)) (has_pair 32 35 (c ∷ u)) t.hash).1;
  end = t.end;
}

-- the last byte is no colon and no blank
last_colon : (b : ℕ) → IsTail b [] → eqb b 58 ≡ false
last_colon b t = (or_parts (eqb b 58) (is_blank b) (not_false _ t.end)).0

last_blank : (b : ℕ) → IsTail b [] → is_blank b ≡ false
last_blank b t = (or_parts (eqb b 58) (is_blank b) (not_false _ t.end)).1

pub last_space : (b : ℕ) → IsTail b [] → eqb b 32 ≡ false
last_space b t = (or_parts (eqb b 32) (eqb b 9) (last_blank b t)).0

-- nothing that counts for nothing begins inside
pub rest_inside : (spaced : Bool) (b : ℕ) (u rest : List ℕ) → (spaced && (eqb b 35)) ≡ false → IsTail b u → is_rest spaced (b ∷ u ++ rest) ≡ false
rest_inside spaced b [] rest h t = or_from _ _ h (and_left (is_blank b) (is_rest (eqb b 32) rest) (last_blank b t))
rest_inside spaced b (c ∷ u) rest h t =
    or_from _ _ h (and_right (is_blank b) (is_rest (eqb b 32) (c ∷ u ++ rest))
    (rest_inside (eqb b 32) c u rest (or_parts ((eqb b 32) && (eqb c 35)) (has_pair 32 35 (c ∷ u)) t.hash).0 (tail_tail b c u t)))

pub gap_inside : (b c : ℕ) (u rest : List ℕ) → eqb c 32 ≡ false → IsTail c u → is_gap (c ∷ u ++ rest) ≡ false
gap_inside b c u rest h t = or_from (eqb c 32) (is_end (c ∷ u ++ rest)) h (rest_inside false c u rest refl t)

colon_inside : (b : ℕ) (u rest : List ℕ) → IsTail b u → ((eqb b 58) && is_gap (u ++ rest)) ≡ false
colon_inside b [] rest t = and_left (eqb b 58) (is_gap rest) (last_colon b t)
colon_inside b (c ∷ u) rest t =
    ⊎_elim (λ h. and_left (eqb b 58) (is_gap (c ∷ u ++ rest)) h)
    (λ h. and_right (eqb b 58) (is_gap (c ∷ u ++ rest)) (gap_inside b c u rest h (tail_tail b c u t)))
    (and_cases (eqb b 58) (eqb c 32) (or_parts ((eqb b 58) && (eqb c 32)) (has_pair 58 32 (c ∷ u)) t.colon).0)

stop_inside : (spaced : Bool) (b : ℕ) (u rest : List ℕ) → (spaced && (eqb b 35)) ≡ false → IsTail b u → is_stop spaced (b ∷ u ++ rest) ≡ false
stop_inside spaced b u rest h t = or_from _ _ (rest_inside spaced b u rest h t) (colon_inside b u rest t)

-- a plain scalar is read to its end
-- one more byte of a plain scalar
pub plain_more : (spaced : Bool) (b : ℕ) (bytes : List ℕ) → is_stop spaced (b ∷ bytes) ≡ false → plain_len spaced (b ∷ bytes) ≡ suc (plain_len (eqb b 32) bytes)
plain_more spaced b bytes h = cond-false (is_stop spaced (b ∷ bytes)) zero (suc (plain_len (eqb b 32) bytes)) h

-- where a blank is one more, something that counts stands behind it
pub counts_behind : (spaced : Bool) (b : ℕ) (bytes : List ℕ) → is_stop spaced (b ∷ bytes) ≡ false → is_blank b ≡ true → is_rest (eqb b 32) bytes ≡ false
counts_behind spaced b bytes h blank =
    let rest = (or_parts (is_rest spaced (b ∷ bytes)) ((eqb b 58) && is_gap bytes) h).0 in
    right_false (is_blank b) (is_rest (eqb b 32) bytes) blank (or_parts (spaced && (eqb b 35)) (is_blank b && is_rest (eqb b 32) bytes) rest).1
  where
    right_false : (x y : Bool) → x ≡ true → (x && y) ≡ false → y ≡ false
    right_false true y is h = h
    right_false false y is h = absurd (false≢true is)

pub plain_len_at : (spaced : Bool) (b : ℕ) (u rest : List ℕ) → (spaced && (eqb b 35)) ≡ false → IsTail b u → is_stop false rest ≡ true
    → plain_len spaced (b ∷ u ++ rest) ≡ length (b ∷ u)
plain_len_at spaced b [] rest h t stop =
    cond-false (is_stop spaced (b ∷ rest)) zero (suc (plain_len (eqb b 32) rest)) (stop_inside spaced b [] rest h t)
    ∙ ap (λ s. suc (plain_len s rest)) (last_space b t) ∙ ap suc (stopped rest stop)
  where
    stopped : (rest : List ℕ) → is_stop false rest ≡ true → plain_len false rest ≡ 0
    stopped [] h = refl
    stopped (c ∷ cs) h = cond-true (is_stop false (c ∷ cs)) zero (suc (plain_len (eqb c 32) cs)) h
plain_len_at spaced b (c ∷ u) rest h t stop =
    cond-false (is_stop spaced (b ∷ c ∷ u ++ rest)) zero (suc (plain_len (eqb b 32) (c ∷ u ++ rest))) (stop_inside spaced b (c ∷ u) rest h t)
    ∙ ap suc (plain_len_at (eqb b 32) c u rest (or_parts ((eqb b 32) && (eqb c 35)) (has_pair 32 35 (c ∷ u)) t.hash).0 (tail_tail b c u t) stop)

-- ---- the same in a flow list

flow_stop_inside : (b : ℕ) (u rest : List ℕ) → list_any is_flow_mark (b ∷ u) ≡ false → IsTail b u → is_flow_stop (b ∷ u ++ rest) ≡ false
flow_stop_inside b [] rest marks t =
    or_from (is_flow_mark b) _ (or_parts (is_flow_mark b) _ marks).0 (and_left (eqb b 32) (is_flow_stop rest) (last_space b t))
flow_stop_inside b (c ∷ u) rest marks t =
    or_from (is_flow_mark b) _ (or_parts (is_flow_mark b) _ marks).0
    (and_right (eqb b 32) (is_flow_stop (c ∷ u ++ rest)) (flow_stop_inside c u rest (or_parts (is_flow_mark b) _ marks).1 (tail_tail b c u t)))

pub flow_len_at : (b : ℕ) (u rest : List ℕ) → list_any is_flow_mark (b ∷ u) ≡ false → IsTail b u → is_flow_stop rest ≡ true
    → flow_len (b ∷ u ++ rest) ≡ length (b ∷ u)
flow_len_at b [] rest marks t stop =
    cond-false (is_flow_stop (b ∷ rest)) zero (suc (flow_len rest)) (flow_stop_inside b [] rest marks t) ∙ ap suc (stopped rest stop)
  where
    stopped : (rest : List ℕ) → is_flow_stop rest ≡ true → flow_len rest ≡ 0
    stopped [] h = refl
    stopped (c ∷ cs) h = cond-true (is_flow_stop (c ∷ cs)) zero (suc (flow_len cs)) h
flow_len_at b (c ∷ u) rest marks t stop =
    cond-false (is_flow_stop (b ∷ c ∷ u ++ rest)) zero (suc (flow_len (c ∷ u ++ rest))) (flow_stop_inside b (c ∷ u) rest marks t)
    ∙ ap suc (flow_len_at c u rest (or_parts (is_flow_mark b) _ marks).1 (tail_tail b c u t) stop)

-- ---- the parts of a plain scalar

-- what is known of a plain scalar's first byte and its tail
pub record IsPlainText (byte : ℕ) (bytes : List ℕ) : Type 0 where
  pub indicator : is_indicator byte ≡ false
  pub tail : IsTail byte bytes
  pub dash : (rest : List ℕ) → ((eqb byte 45) && is_gap (bytes ++ rest)) ≡ false

plain_tail : (b : ℕ) (u : List ℕ) → is_plain (b ∷ u) ≡ true → IsTail b u
plain_tail b u h =
    let x = and_parts _ (ends_plain (b ∷ u)) h in
    let y = and_parts _ (not (has_pair 32 35 (b ∷ u))) x.0 in
    let z = and_parts (begins_plain (b ∷ u)) (not (has_pair 58 32 (b ∷ u))) y.0 in
    record { colon = not_false _ z.1; hash = not_false _ y.1; end = x.1 }

plain_begin : (b : ℕ) (u : List ℕ) → is_plain (b ∷ u) ≡ true → begins_plain (b ∷ u) ≡ true
plain_begin b u h =
    let x = and_parts _ (ends_plain (b ∷ u)) h in
    let y = and_parts _ (not (has_pair 32 35 (b ∷ u))) x.0 in
    (and_parts (begins_plain (b ∷ u)) (not (has_pair 58 32 (b ∷ u))) y.0).0

dash_only : (b : ℕ) → is_dash_or_question b ≡ false → eqb b 45 ≡ false
dash_only b h = (or_parts (eqb b 45) (eqb b 63) h).0

pub plain_parts : (b : ℕ) (u : List ℕ) → is_plain (b ∷ u) ≡ true → IsPlainText b u
plain_parts b [] h =
    let x = or_parts (is_indicator b) (is_dash_or_question b) (not_false _ (plain_begin b [] h)) in
    record { indicator = x.0; tail = plain_tail b [] h; dash = λ rest. and_left (eqb b 45) (is_gap rest) (dash_only b x.1) }
plain_parts b (c ∷ u) h =
    let x = and_parts (not (is_indicator b)) (not (is_dash_or_question b && (eqb c 32))) (plain_begin b (c ∷ u) h) in
    record {
      indicator = not_false _ x.0;
      tail = plain_tail b (c ∷ u) h;
      dash = λ rest. ⊎_elim (λ d. and_left (eqb b 45) (is_gap (c ∷ u ++ rest)) (dash_only b d))
          (λ d. and_right (eqb b 45) (is_gap (c ∷ u ++ rest)) (gap_inside b c u rest d (tail_tail b c u (plain_tail b (c ∷ u) h))))
          (and_cases (is_dash_or_question b) (eqb c 32) (not_false _ x.1));
    }
