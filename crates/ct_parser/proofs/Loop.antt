-- Reading a unit item by item.
use Rattle.std.proofs.Common.{◌≡◌, ℕ, zero, suc, ◌+◌, ◌<◌, List, [], ◌∷◌, ◌++◌, length, take, drop, slice_get, Option, Some, None, refl, sym, ap, subst, ◌∙◌, arith, length-append}
use Rattle.std.specs.Prelude.{is_none}
use Rattle.std.proofs.lemmas.List.{take-append-drop}
use Rattle.std.proofs.lemmas.Option.{none-some}
use Rattle.std.proofs.Math.Seq.{drop-length}
use Rattle.ct_base.specs.declared.lexical.Token.{Token}
use Rattle.ct_base.specs.declared.limits.LimitKind.{LimitKind}
use Rattle.ct_syntax.specs.Words.{Word, word, words}
use Rattle.ct_syntax.specs.Scopes.{Scope, no_names, after_item, after_unit}
use Rattle.ct_syntax.specs.Grammar.{IsItem}
use Rattle.ct_syntax.specs.Spelling.{spell_unit}
use Rattle.ct_syntax.specs.Depths.{all_room, or_else, passed_item, passed_unit}
use Rattle.ct_syntax.specs.Units.{SpellsUnit, IsShallow, NoItem, Unspelled}
use Rattle.ct_syntax.specs.Trees as t
use Rattle.ct_grammar_machine.specs.Algebra.{items}
use Rattle.ct_parser_parts.specs.Parts.{Part, kept}
use Rattle.ct_parser_parts.specs.Reach.{passed_by, depth_unit}
use Rattle.ct_parser.specs.Parses.{Refused, Parsed, Reached, Progress, then_built, items_after, deep_here, deep_after}
use Rattle.ct_grammar_laws.proofs.Leads.{unit_spelled, after_unit-last, IsTranslationUnit-last}
use Rattle.ct_parser.proofs.ReachTells.{tells_depth_unit}
use Rattle.ct_parser.proofs.ItemRead.{ItemSeen, unit-append}
use Rattle.ct_parser.proofs.OneUnit.{no_unit, one_place}

-- ---- words of tokens

words-append : (a b : List Token) → words (a ++ b) ≡ words a ++ words b
words-append [] b = refl
words-append (x ∷ a) b = ap (λ ws. word x ∷ ws) (words-append a b)

tails : (x y : Word) (us vs : List Word) → ◌≡◌ {A = List Word} (x ∷ us) (y ∷ vs) → us ≡ vs
tails x y us vs e = cc

heads : (x y : Word) (us vs : List Word) → ◌≡◌ {A = List Word} (x ∷ us) (y ∷ vs) → x ≡ y
heads x y us vs e = cc

cancel : (xs ys zs : List Word) → xs ++ zs ≡ ys ++ zs → xs ≡ ys
cancel [] [] zs e = refl
cancel [] (y ∷ ys) zs e = let lengths = ap length e in let more = length-append ys zs in absurd (omega (arith, lengths, more))
cancel (x ∷ xs) [] zs e = let lengths = ap length e in let more = length-append xs zs in absurd (omega (arith, lengths, more))
cancel (x ∷ xs) (y ∷ ys) zs e = ap (λ w. w ∷ xs) (heads x y (xs ++ zs) (ys ++ zs) e) ∙ ap (λ ws. y ∷ ws) (cancel xs ys zs (tails x y (xs ++ zs) (ys ++ zs) e))

take_drop : (tokens : List Token) (at : ℕ) → take at tokens ++ drop at tokens ≡ tokens
take_drop tokens at = take-append-drop at tokens

-- the words before a place are those of the items before it
spelled_before : (is : List t.Item) (tokens : List Token) (at : ℕ) → spell_unit is (words (drop at tokens)) ≡ words tokens → spell_unit is [] ≡ words (take at tokens)
spelled_before is tokens at e =
    cancel (spell_unit is []) (words (take at tokens)) (words (drop at tokens)) (sym (unit-append is (words (drop at tokens))) ∙ e ∙ ap words (sym (take_drop tokens at)) ∙ words-append (take at tokens) (drop at tokens))

-- ---- the beginning, and one item more

pub at_start : (tokens : List Token) → Progress tokens 0 no_names [] None
at_start tokens = record { all = []; is_unit = tt; spelled = refl; scope_is = refl; reached = (refl, refl) }

or_else-assoc : (a b c : Option LimitKind) → or_else (or_else a b) c ≡ or_else a (or_else b c)
or_else-assoc None b c = refl
or_else-assoc (Some k) b c = refl

or_none : (a : Option LimitKind) → or_else a None ≡ a
or_none None = refl
or_none (Some k) = refl

passed-last : (is : List t.Item) (x : t.Item) → passed_unit all_room (is ++ x ∷ []) ≡ or_else (passed_unit all_room is) (passed_item all_room x)
passed-last [] x = or_none (passed_item all_room x)
passed-last (i ∷ is) x = ap (or_else (passed_item all_room i)) (passed-last is x) ∙ sym (or_else-assoc (passed_item all_room i) (passed_unit all_room is) (passed_item all_room x))

reach_tells : (x : t.Item) → passed_by all_room (depth_unit (x ∷ [])) ≡ passed_item all_room x
reach_tells x = tells_depth_unit (x ∷ []) all_room (omega arith, omega arith, omega arith) ∙ or_none (passed_item all_room x)

longer : (a b : List t.Item) (d x : t.Item) → (a ++ d ∷ b) ++ x ∷ [] ≡ a ++ d ∷ (b ++ x ∷ [])
longer [] b d x = refl
longer (y ∷ a) b d x = ap (λ z. y ∷ z) (longer a b d x)

module _ (tokens : List Token) (at next : ℕ) (scope scope' : Scope) (p : Part items) (seen : ItemSeen scope (words (drop at tokens)) (words (drop next tokens)) scope' p) where
  -- with the item behind those before
  more : (built built' : List t.Item) (deep deep' : Option (ℕ × LimitKind)) → (h : Progress tokens at scope built deep) → Reached tokens (h.all ++ seen.item ∷ []) built' deep' → Progress tokens next scope' built' deep'
  more built built' deep deep' h r = record {
    all = h.all ++ seen.item ∷ [];
    is_unit = IsTranslationUnit-last no_names h.all seen.item h.is_unit (subst (λ z. IsItem z seen.item) h.scope_is seen.is_item);
    spelled = unit_spelled h.all seen.item (words (drop next tokens)) ∙ ap (spell_unit h.all) seen.spelled ∙ h.spelled;
    scope_is = seen.scope ∙ ap (λ z. after_item z seen.item) h.scope_is ∙ sym (after_unit-last no_names h.all seen.item);
    reached = r;
  }

  reach_is : p.built.reach ≡ depth_unit (seen.item ∷ [])
  reach_is = ap (λ (q : Part items). q.built.reach) seen.seen

  tree_is : p.built.tree ≡ kept (is_none (passed_by all_room (depth_unit (seen.item ∷ [])))) (Some (seen.item ∷ []))
  tree_is = ap (λ (q : Part items). q.built.tree) seen.seen

  kept_some : (o : Option LimitKind) (x y : List t.Item) → kept (is_none o) (Some x) ≡ Some y → (o ≡ None) × (x ≡ y)
  kept_some None x y e = (refl, cc)
  kept_some (Some k) x y e = absurd cc

  pub next_shallow : (built more_built : List t.Item) → Progress tokens at scope built None → p.built.tree ≡ Some more_built → Progress tokens next scope' (built ++ more_built) None
  next_shallow built more_built h e =
      let k = kept_some (passed_by all_room (depth_unit (seen.item ∷ []))) (seen.item ∷ []) more_built (sym tree_is ∙ e) in
      more built (built ++ more_built) None None h (
        (ap (λ z. z ++ more_built) h.reached.0 ∙ ap (λ z. h.all ++ z) (sym k.1)),
        passed-last h.all seen.item ∙ ap (λ z. or_else z (passed_item all_room seen.item)) h.reached.1 ∙ sym (reach_tells seen.item) ∙ k.0,
      )

  pub next_deep : (built built' : List t.Item) (kind : LimitKind) → Progress tokens at scope built None → at < length tokens → passed_by all_room p.built.reach ≡ Some kind → Progress tokens next scope' built' (Some (at, kind))
  next_deep built built' kind h l e =
      more built built' None (Some (at, kind)) h
      (l, (h.all, seen.item, [], refl, h.spelled, h.reached.1, sym (reach_tells seen.item) ∙ ap (passed_by all_room) (sym reach_is) ∙ e))

  pub next_any : (built built' : List t.Item) (place : ℕ) (kind : LimitKind) → Progress tokens at scope built (Some (place, kind)) → Progress tokens next scope' built' (Some (place, kind))
  next_any built built' place kind h =
      let r = h.reached.1 in
      more built built' (Some (place, kind)) (Some (place, kind)) h
      (h.reached.0, (r.0, r.1, r.2 ++ seen.item ∷ [], ap (λ z. z ++ seen.item ∷ []) r.3 ∙ longer r.0 r.2 r.1 seen.item, r.4, r.5, r.6))

  -- what is built of an item that passes no limit
  all_built : p.built.tree ≡ None → passed_by all_room p.built.reach ≡ None → ⊥
  all_built e k = none-some (seen.item ∷ []) (sym e ∙ tree_is ∙ ap (λ z. kept (is_none z) (Some (seen.item ∷ []))) (ap (passed_by all_room) (sym reach_is) ∙ k))

  then_more : (built : List t.Item) → Progress tokens at scope built None → at < length tokens → (tree : Option (List t.Item)) → p.built.tree ≡ tree → (limit : Option LimitKind) → passed_by all_room p.built.reach ≡ limit → Progress tokens next scope' (then_built built tree) (deep_here at tree limit)
  then_more built h l (Some more_built) e limit k = next_shallow built more_built h e
  then_more built h l None e (Some kind) k = next_deep built built kind h l k
  then_more built h l None e None k = absurd (all_built e k)

  pub next_item : (built : List t.Item) (deep : Option (ℕ × LimitKind)) → Progress tokens at scope built deep → at < length tokens → Progress tokens next scope' (items_after deep built p) (deep_after deep at p)
  next_item built None h l = then_more built h l p.built.tree refl (passed_by all_room p.built.reach) refl
  next_item built (Some (place, kind)) h l = next_any built built place kind h

-- ---- the ends

rest_suc : (tokens : List Token) (at : ℕ) (token : Token) → slice_get tokens at ≡ Some token → drop at tokens ≡ token ∷ drop (suc at) tokens
rest_suc [] zero token e = absurd cc
rest_suc [] (suc n) token e = absurd cc
rest_suc (x ∷ xs) zero token e = ap (λ z. z ∷ xs) (inside e)
  where
    inside : Some x ≡ Some token → x ≡ token
    inside h = cc
rest_suc (x ∷ xs) (suc n) token e = rest_suc xs n token e

pub rest_at : (tokens : List Token) (at : ℕ) (token : Token) → slice_get tokens at ≡ Some token → drop at tokens ≡ token ∷ drop (at + 1) tokens
rest_at tokens at token e = rest_suc tokens at token e ∙ ap (λ n. token ∷ drop n tokens) (same at)
  where
    same : (n : ℕ) → suc n ≡ n + 1
    same n = omega arith

split_at : (tokens : List Token) (at : ℕ) (token : Token) → slice_get tokens at ≡ Some token → tokens ≡ take at tokens ++ token ∷ drop (at + 1) tokens
split_at tokens at token e = sym (take_drop tokens at) ∙ ap (λ z. take at tokens ++ z) (rest_at tokens at token e)

pub at_no_item : (tokens : List Token) (at : ℕ) (token : Token) (scope : Scope) (built : List t.Item) (deep : Option (ℕ × LimitKind)) → Progress tokens at scope built deep → slice_get tokens at ≡ Some token → NoItem scope (words (drop at tokens)) → Refused tokens token.span None
at_no_item tokens at token scope built deep h e none =
    let rest = drop (at + 1) tokens in
    let here : NoItem (after_unit no_names h.all) (words (token ∷ rest)) = subst (λ z. NoItem z (words (token ∷ rest))) h.scope_is (subst (λ z. NoItem scope (words z)) (rest_at tokens at token e) none) in
    record {
      before = take at tokens;
      token = token;
      after = rest;
      split = split_at tokens at token e;
      span_is = refl;
      cause = (
        record { items = h.all; spells = record { is_unit = h.is_unit; spelled = spelled_before h.all tokens at h.spelled }; no_item = here },
        λ js k. no_unit h.all no_names (word token) (words rest) h.is_unit here js k.is_unit (k.spelled ∙ ap words (sym (split_at tokens at token e)) ∙ sym h.spelled ∙ ap (λ z. spell_unit h.all (words z)) (rest_at tokens at token e)),
      );
    }

pub drop_all : (tokens : List Token) → drop (length tokens) tokens ≡ []
drop_all tokens = drop-length tokens

whole : (tokens : List Token) (scope : Scope) (built : List t.Item) (deep : Option (ℕ × LimitKind)) → (h : Progress tokens (length tokens) scope built deep) → SpellsUnit h.all (words tokens)
whole tokens scope built deep h = record { is_unit = h.is_unit; spelled = ap (λ z. spell_unit h.all (words z)) (sym (drop_all tokens)) ∙ h.spelled }

pub at_end : (tokens : List Token) (scope : Scope) (built : List t.Item) → Progress tokens (length tokens) scope built None → Parsed tokens built
at_end tokens scope built h = (subst (λ z. SpellsUnit z (words tokens)) (sym h.reached.0) (whole tokens scope built None h), subst IsShallow (sym h.reached.0) h.reached.1)

pub at_deep_end : (tokens : List Token) (scope : Scope) (built : List t.Item) (place : ℕ) (kind : LimitKind) (token : Token) → Progress tokens (length tokens) scope built (Some (place, kind)) → slice_get tokens place ≡ Some token → Refused tokens token.span (Some kind)
at_deep_end tokens scope built place kind token h e =
    let r = h.reached.1 in
    let split = split_at tokens place token e in
    record {
      before = take place tokens;
      token = token;
      after = drop (place + 1) tokens;
      split = split;
      span_is = refl;
      cause = record {
        earlier = r.0;
        deep = r.1;
        later = r.2;
        spells = subst (λ z. SpellsUnit z (words (take place tokens ++ token ∷ drop (place + 1) tokens))) r.3 (subst (λ z. SpellsUnit h.all (words z)) split (whole tokens scope built (Some (place, kind)) h));
        behind = spelled_before r.0 tokens place r.4;
        shallow = r.5;
        deepest = r.6;
      };
    }

-- ---- the place where no item begins

whole_words : (before after : List Token) (token : Token) (h : Unspelled before token after) → spell_unit h.items (words (token ∷ after)) ≡ words (before ++ token ∷ after)
whole_words before after token h = unit-append h.items (words (token ∷ after)) ∙ ap (λ ws. ws ++ words (token ∷ after)) h.spells.spelled ∙ sym (words-append before (token ∷ after))

pub unspelled_none : (before after : List Token) (token : Token) → Unspelled before token after → (is : List t.Item) → SpellsUnit is (words (before ++ token ∷ after)) → ⊥
unspelled_none before after token h is k = no_unit h.items no_names (word token) (words after) h.spells.is_unit h.no_item is k.is_unit (k.spelled ∙ sym (whole_words before after token h))

pub unspelled_once : (before after before' after' : List Token) (token token' : Token) → before ++ token ∷ after ≡ before' ++ token' ∷ after' → Unspelled before token after → Unspelled before' token' after' → words before ≡ words before'
unspelled_once before after before' after' token token' e h k =
    let same = one_place h.items k.items no_names (word token) (word token') (words after) (words after') h.spells.is_unit h.no_item k.spells.is_unit k.no_item (whole_words before after token h ∙ ap words e ∙ sym (whole_words before' after' token' k)) in
    sym h.spells.spelled ∙ ap (λ is. spell_unit is []) same ∙ k.spells.spelled
