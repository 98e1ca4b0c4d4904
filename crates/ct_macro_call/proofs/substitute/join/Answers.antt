use Rattle.std.proofs.Common.{rules, ◌≡◌, ◌∷◌, ◌++◌, [], List, length, ◌<◌, ap, refl, sym, ◌∙◌, arith, append_assoc}
use Rattle.std.proofs.lemmas.Bool.{false≢true}
use Rattle.ct_macro_call.specs.declared.marked.Marked.{Marked}
use Rattle.ct_macro_call.proofs.Collecting.{nil_split}
use Rattle.ct_macro_call.proofs.Pasting.{first_removed, not_joined}
use Rattle.ct_macro_call.proofs.substitute.join.Goals as goal

not_empty : (xs : List Marked) → (xs ≡ [] → ⊥) → 0 < length xs
not_empty [] some = absurd (some refl)
not_empty (x ∷ xs) some = omega arith

pub returns-in_err-pasted : goal.returns-in_err-pasted
returns-in_err-pasted c = search rules

pub returns-in_err-push : goal.returns-in_err-push
returns-in_err-push c = search rules

pub returns-in_err-append : goal.returns-in_err-append
returns-in_err-append c = search rules

pub same-right : goal.same-right
same-right c = refl

pub same-joint : goal.same-joint
same-joint c = refl

pub same-joint-2 : goal.same-joint-2
same-joint-2 c = refl

pub same-joint-3 : goal.same-joint-3
same-joint-3 c = refl

pub same-back : goal.same-back
same-back c = refl

pub returns-in_default : goal.returns-in_default
returns-in_default c = λ joint joins. nil_split joins.front joins.last [] (sym c.in_default.ensures.0 ∙ joins.left_is)

pub returns-then-is_empty : goal.returns-then-is_empty
returns-then-is_empty c =
    λ joint joins. let bad : [] ≡ joins.first ∷ joins.back = sym (c.if-is_empty.ensures.0 refl) ∙ joins.right_is in cc

pub remove-first-requires : goal.remove-first-requires
remove-first-requires c = not_empty c.args.right (λ e. false≢true (c.if-is_empty.ensures.1 e))

pub returns-in_default-2 : goal.returns-in_default-2
returns-in_default-2 c =
    not_joined c.args.left c.args.right c.pop.new.self c.in-Some.last c.remove-first.result c.remove-first.new.self c.in-Some.ensures
    (first_removed c.args.right c.remove-first.result c.remove-first.new.self c.remove-first.ensures.item c.remove-first.ensures.rest) (rw c.in_default-2.is at c.in_ok-pasted.ensures)

pub returns : goal.returns
returns c =
    record {
      front = c.pop.new.self;
      last = c.in-Some.last;
      first = c.remove-first.result;
      back = c.remove-first.new.self;
      pasted = c.in-Some-2.pasted;
      left_is = c.in-Some.ensures;
      right_is = first_removed c.args.right c.remove-first.result c.remove-first.new.self c.remove-first.ensures.item c.remove-first.ensures.rest;
      pastes = rw c.in-Some-2.is at c.in_ok-pasted.ensures;
      joint_is = c.in_ok-append.ensures ∙ ap (λ (l : List Marked). l ++ c.remove-first.new.self) c.in_ok-push.ensures.ok ∙ append_assoc c.pop.new.self (c.in-Some-2.pasted ∷ []) c.remove-first.new.self;
    }
