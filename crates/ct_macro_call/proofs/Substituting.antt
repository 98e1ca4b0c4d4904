-- What a body puts, operand by operand.
use Rattle.std.proofs.Common.{◌≡◌, ℕ, Bool, true, false, List, [], ◌∷◌, ◌++◌, length, refl, sym, ap, ◌∙◌, subst, arith, append_assoc}
use Rattle.std.specs.Prelude.{MatchBool, map, filter}
use Rattle.std.proofs.lemmas.List.{append-nil}
use Rattle.ct_base.specs.declared.lexical.Token.{Token}
use Rattle.ct_macro_call.specs.declared.marked.Marked.{Marked}
use Rattle.ct_macro_call.specs.declared.call.Operand.{Operand}
use Rattle.ct_macro_call.specs.declared.call.Call.{Call}
use Rattle.ct_macro_call.specs.Spelled.{Joins, Pastes, respaced}
use Rattle.ct_macro_call.specs.Substitution.{Puts, IsReplacement, placed, dressed, has_bytes, tokens_at}
use Rattle.ct_macro_call.proofs.Pasting.{OneTokenization, one_pasted, same_last}

-- ---- two lists are pasted in one way

pub one_joint : OneTokenization → (left right a b : List Marked) → Joins left right a → Joins left right b → a ≡ b
one_joint law left right a b one other =
    let ends = same_last one.front one.last other.front other.last (sym one.left_is ∙ other.left_is) in
    let starts : one.first ∷ one.back ≡ other.first ∷ other.back = sym one.right_is ∙ other.right_is in
    let first : one.first ≡ other.first = cc in
    let back : one.back ≡ other.back = cc in
    let moved : Pastes one.last one.first other.pasted = subst (λ (l : Marked). Pastes l one.first other.pasted) (sym ends.1) (subst (λ (f : Marked). Pastes other.last f other.pasted) (sym first) other.pastes) in
    let pasted = one_pasted law one.last one.first one.pasted other.pasted one.pastes moved in
    one.joint_is ∙ ap (λ f. f ++ one.pasted ∷ one.back) ends.0 ∙ ap (λ p. other.front ++ p ∷ one.back) pasted ∙ ap (λ k. other.front ++ other.pasted ∷ k) back ∙ sym other.joint_is

-- ---- the operands so far

by_true : (P Q : Type 0) (b : Bool) → b ≡ true → P → MatchBool b P Q
by_true P Q true e p = p
by_true P Q false e p = absurd (cc)

of_true : (P Q : Type 0) (b : Bool) → b ≡ true → MatchBool b P Q → P
of_true P Q true e p = p
of_true P Q false e p = absurd (cc)

by_false : (P Q : Type 0) (b : Bool) → b ≡ false → Q → MatchBool b P Q
by_false P Q false e q = q
by_false P Q true e q = absurd (cc)

of_false : (P Q : Type 0) (b : Bool) → b ≡ false → MatchBool b P Q → Q
of_false P Q false e q = q
of_false P Q true e q = absurd (cc)

-- what these operands put, behind what is done, is what the body puts
pub record PutSoFar (tokens : Operand → List Marked) (body : List Operand) (done left : List Marked) (rest : List Operand) : Type 0 where
  pub forth : (more : List Marked) → Puts tokens left rest more → Puts tokens [] body (done ++ more)
  pub back : (put : List Marked) → Puts tokens [] body put → (more : List Marked) × Puts tokens left rest more × (put ≡ done ++ more)

pub nothing_put : (tokens : Operand → List Marked) (body : List Operand) → PutSoFar tokens body [] [] body
nothing_put tokens body = record { forth = λ more p. p; back = λ put p. (put, p, refl) }

pub put_pasted : OneTokenization → (tokens : Operand → List Marked) (body : List Operand) (done left : List Marked) (operand : Operand) (rest : List Operand) (joint : List Marked)
    → PutSoFar tokens body done left (operand ∷ rest) → operand.behind_paste ≡ true → Joins left (tokens operand) joint → PutSoFar tokens body done joint rest
put_pasted law tokens body done left operand rest joint so_far behind joins =
    record {
      forth = λ more p. so_far.forth more (by_true _ _ operand.behind_paste behind (joint, joins, p));
      back = λ put p. let old = so_far.back put p in let inner = of_true _ _ operand.behind_paste behind old.1 in
          (old.0, subst (λ (j : List Marked). Puts tokens j rest old.0) (one_joint law left (tokens operand) inner.0 joint inner.1 joins) inner.2, old.2);
    }

pub put_plain : (tokens : Operand → List Marked) (body : List Operand) (done left : List Marked) (operand : Operand) (rest : List Operand)
    → PutSoFar tokens body done left (operand ∷ rest) → operand.behind_paste ≡ false → PutSoFar tokens body (done ++ left) (tokens operand) rest
put_plain tokens body done left operand rest so_far behind =
    record {
      forth = λ more p. subst (λ (l : List Marked). Puts tokens [] body l) (sym (append_assoc done left more)) (so_far.forth (left ++ more) (by_false _ _ operand.behind_paste behind (more, p, refl)));
      back = λ put p. let old = so_far.back put p in let inner = of_false _ _ operand.behind_paste behind old.1 in
          (inner.0, inner.1, old.2 ∙ ap (λ l. done ++ l) inner.2 ∙ sym (append_assoc done left inner.0));
    }

pub never_put : (tokens : Operand → List Marked) (body : List Operand) (done left : List Marked) (operand : Operand) (rest : List Operand)
    → PutSoFar tokens body done left (operand ∷ rest) → operand.behind_paste ≡ true → ((joint : List Marked) → Joins left (tokens operand) joint → ⊥)
    → (put : List Marked) → Puts tokens [] body put → ⊥
never_put tokens body done left operand rest so_far behind none put p =
    let inner = of_true _ _ operand.behind_paste behind (so_far.back put p).1 in none inner.0 inner.1

pub all_put : (tokens : Operand → List Marked) (body : List Operand) (done left : List Marked) (rest : List Operand) → PutSoFar tokens body done left rest → rest ≡ []
    → Puts tokens [] body (done ++ left)
all_put tokens body done left rest so_far end = so_far.forth left (subst (λ (r : List Operand). Puts tokens left r left) (sym end) refl)

pub one_put : OneTokenization → (tokens : Operand → List Marked) (body : List Operand) (left a b : List Marked) → Puts tokens left body a → Puts tokens left body b → a ≡ b
one_put law tokens [] left a b one other = one ∙ sym other
one_put law tokens (operand ∷ body) left a b one other = by_paste operand.behind_paste one other (λ l x y. one_put law tokens body l x y)
  where
    by_paste : (p : Bool)
        → MatchBool p ((joint : List Marked) × Joins left (tokens operand) joint × Puts tokens joint body a) ((rest : List Marked) × Puts tokens (tokens operand) body rest × (a ≡ left ++ rest))
        → MatchBool p ((joint : List Marked) × Joins left (tokens operand) joint × Puts tokens joint body b) ((rest : List Marked) × Puts tokens (tokens operand) body rest × (b ≡ left ++ rest))
        → ((l x y : List Marked) → Puts tokens l body x → Puts tokens l body y → x ≡ y) → a ≡ b
    by_paste true one other same = same one.0 a b one.2 (subst (λ (j : List Marked). Puts tokens j body b) (one_joint law left (tokens operand) other.0 one.0 other.1 one.1) other.2)
    by_paste false one other same = one.2 ∙ ap (λ l. left ++ l) (same (tokens operand) one.0 other.0 one.1 other.1) ∙ sym other.2

pub one_is_put : OneTokenization → (call : Call) (fulls : List (List Marked)) (a b : List Marked) → IsReplacement call fulls a → IsReplacement call fulls b → a ≡ b
one_is_put law call fulls a b one other =
    one.put_is ∙ ap (λ tokens. placed call.name.token (map (dressed call) (filter has_bytes tokens))) (one_put law (tokens_at call.names call.raws fulls) call.body [] one.tokens other.tokens one.puts other.puts) ∙ sym other.put_is

-- ---- the replacement's tokens so far

-- the first token of the whole list has white space before it as the name has
abbrev pub placed_on : List Marked → Token → List Marked → List Marked
placed_on [] place more = placed place more
placed_on (first ∷ rest) place more = (first ∷ rest) ++ more

pub first_dressed : (put : List Marked) (place : Token) (t : Marked) (more : List Marked) → put ≡ []
    → placed_on (put ++ respaced place.spaced t ∷ []) place more ≡ placed_on put place (t ∷ more)
first_dressed [] place t more e = refl
first_dressed (p ∷ put) place t more e = cc

pub next_dressed : (put : List Marked) (place : Token) (t : Marked) (more : List Marked) → (put ≡ [] → ⊥)
    → placed_on (put ++ t ∷ []) place more ≡ placed_on put place (t ∷ more)
next_dressed [] place t more e = absurd (e refl)
next_dressed (p ∷ put) place t more e = append_assoc (p ∷ put) (t ∷ []) more

pub all_dressed : (put : List Marked) (place : Token) → placed_on put place [] ≡ put
all_dressed [] place = refl
all_dressed (p ∷ put) place = append-nil (p ∷ put)

pub bytes_kept : (d : Marked → Marked) (t : Marked) (source : List Marked) → (t.token.text ≡ [] → ⊥) → map d (filter has_bytes (t ∷ source)) ≡ d t ∷ map d (filter has_bytes source)
bytes_kept d t source some = rw (has t.token.text some) refl
  where
    has : (text : List ℕ) → (text ≡ [] → ⊥) → has_bytes record t { token = record t.token { text = text } } ≡ true
    has [] e = absurd (e refl)
    has (b ∷ bs) e = refl

pub bytes_gone : (d : Marked → Marked) (t : Marked) (source : List Marked) → t.token.text ≡ [] → map d (filter has_bytes (t ∷ source)) ≡ map d (filter has_bytes source)
bytes_gone d t source none = rw (has t.token.text none) refl
  where
    has : (text : List ℕ) → text ≡ [] → has_bytes record t { token = record t.token { text = text } } ≡ false
    has [] e = refl
    has (b ∷ bs) e = cc

-- ---- the steps of the loops

no_length : {A : Type 0} (xs : List A) → length xs ≡ 0 → xs ≡ []
no_length [] e = refl
no_length (x ∷ xs) e = absurd (omega arith)

pub put_begins : (tokens : Operand → List Marked) (body : List Operand) (done left : List Marked) (rest : List Operand) → done ≡ [] → left ≡ [] → rest ≡ body
    → PutSoFar tokens body done left rest
put_begins tokens body done left rest d l r = rw (d, l, r) (nothing_put tokens body)

pub pasted_on : OneTokenization → (tokens : Operand → List Marked) (body : List Operand) (done left before these joint : List Marked) (operand : Operand) (old rest : List Operand)
    → PutSoFar tokens body done left old → old ≡ operand ∷ rest → operand.behind_paste ≡ true → before ≡ left → these ≡ tokens operand → Joins before these joint
    → PutSoFar tokens body done joint rest
pasted_on law tokens body done left before these joint operand old rest so_far split behind front is joins =
    put_pasted law tokens body done left operand rest joint (subst (λ (r : List Operand). PutSoFar tokens body done left r) split so_far) behind
    (subst (λ (l : List Marked). Joins l (tokens operand) joint) front (subst (λ (t : List Marked). Joins before t joint) is joins))

pub plain_on : (tokens : Operand → List Marked) (body : List Operand) (done left before these later : List Marked) (operand : Operand) (old rest : List Operand)
    → PutSoFar tokens body done left old → old ≡ operand ∷ rest → operand.behind_paste ≡ false → before ≡ left → these ≡ tokens operand → later ≡ done ++ before
    → PutSoFar tokens body later these rest
plain_on tokens body done left before these later operand old rest so_far split behind front is all =
    subst (λ (t : List Marked). PutSoFar tokens body later t rest) (sym is)
    (subst (λ (d : List Marked). PutSoFar tokens body d (tokens operand) rest) (sym (all ∙ ap (λ l. done ++ l) front))
    (put_plain tokens body done left operand rest (subst (λ (r : List Operand). PutSoFar tokens body done left r) split so_far) behind))

pub never_on : (tokens : Operand → List Marked) (body : List Operand) (done left before these : List Marked) (operand : Operand) (old rest : List Operand)
    → PutSoFar tokens body done left old → old ≡ operand ∷ rest → operand.behind_paste ≡ true → before ≡ left → these ≡ tokens operand
    → ((joint : List Marked) → Joins before these joint → ⊥) → (put : List Marked) → Puts tokens [] body put → ⊥
never_on tokens body done left before these operand old rest so_far split behind front is none put p =
    never_put tokens body done left operand rest (subst (λ (r : List Operand). PutSoFar tokens body done left r) split so_far) behind
    (λ joint joins. none joint (subst (λ (l : List Marked). Joins l these joint) (sym front) (subst (λ (t : List Marked). Joins left t joint) (sym is) joins))) put p

pub all_on : (tokens : Operand → List Marked) (body : List Operand) (done left all : List Marked) (rest : List Operand) → PutSoFar tokens body done left rest → length rest ≡ 0
    → all ≡ done ++ left → Puts tokens [] body all
all_on tokens body done left all rest so_far end is =
    subst (λ (p : List Marked). Puts tokens [] body p) (sym is) (all_put tokens body done left rest so_far (no_length rest end))

module _ (dress : Marked → Marked) (place : Token) where
  pub dress_begins : (put source tokens none : List Marked) → put ≡ [] → source ≡ tokens ++ none → none ≡ []
      → placed_on put place (map dress (filter has_bytes source)) ≡ placed place (map dress (filter has_bytes tokens))
  dress_begins put source tokens none p s e =
      let whole : source ≡ tokens = s ∙ ap (λ l. tokens ++ l) e ∙ append-nil tokens in rw (p, whole) refl

  pub dress_first : (put later source rest : List Marked) (marked whole t : Marked) → put ≡ [] → later ≡ put ++ t ∷ [] → t ≡ respaced place.spaced whole → whole ≡ dress marked
      → source ≡ marked ∷ rest → (marked.token.text ≡ [] → ⊥)
      → placed_on later place (map dress (filter has_bytes rest)) ≡ placed_on put place (map dress (filter has_bytes source))
  dress_first put later source rest marked whole t empty more is dressed split some =
      let grown : later ≡ put ++ respaced place.spaced (dress marked) ∷ [] = more ∙ ap (λ (x : Marked). put ++ x ∷ []) (is ∙ ap (respaced place.spaced) dressed) in
      ap (λ l. placed_on l place (map dress (filter has_bytes rest))) grown ∙ first_dressed put place (dress marked) (map dress (filter has_bytes rest)) empty
      ∙ ap (λ l. placed_on put place l) (sym (bytes_kept dress marked rest some)) ∙ ap (λ l. placed_on put place (map dress (filter has_bytes l))) (sym split)

  pub dress_next : (put later source rest : List Marked) (marked whole : Marked) → (put ≡ [] → ⊥) → later ≡ put ++ whole ∷ [] → whole ≡ dress marked
      → source ≡ marked ∷ rest → (marked.token.text ≡ [] → ⊥)
      → placed_on later place (map dress (filter has_bytes rest)) ≡ placed_on put place (map dress (filter has_bytes source))
  dress_next put later source rest marked whole full more dressed split some =
      let grown : later ≡ put ++ dress marked ∷ [] = more ∙ ap (λ (x : Marked). put ++ x ∷ []) dressed in
      ap (λ l. placed_on l place (map dress (filter has_bytes rest))) grown ∙ next_dressed put place (dress marked) (map dress (filter has_bytes rest)) full
      ∙ ap (λ l. placed_on put place l) (sym (bytes_kept dress marked rest some)) ∙ ap (λ l. placed_on put place (map dress (filter has_bytes l))) (sym split)

  pub dress_none : (put source rest : List Marked) (marked : Marked) → source ≡ marked ∷ rest → marked.token.text ≡ []
      → placed_on put place (map dress (filter has_bytes rest)) ≡ placed_on put place (map dress (filter has_bytes source))
  dress_none put source rest marked split none =
      ap (λ l. placed_on put place l) (sym (bytes_gone dress marked rest none)) ∙ ap (λ l. placed_on put place (map dress (filter has_bytes l))) (sym split)

  pub dress_ends : (put source : List Marked) → source ≡ [] → put ≡ placed_on put place (map dress (filter has_bytes source))
  dress_ends put source end = sym (all_dressed put place) ∙ ap (λ l. placed_on put place (map dress (filter has_bytes l))) (sym end)
