use Rattle.std.proofs.Common.{rules, ◌≡◌, ◌∷◌, ◌++◌, [], ℕ, List, Option, ap, refl, sym, subst, ◌∙◌}
use Rattle.ct_macro_call.specs.declared.marked.Marked.{Marked}
use Rattle.ct_macro_call.specs.Calls.{IsOpenCall, IsCall, AreArguments, separators, arguments_for}
use Rattle.ct_macro.proofs.Readings.{taken, open_call, bad_number, good_call, any_comma, some_commas}
use Rattle.ct_macro.proofs.reading.replace_function.Goals as goal
use Rattle.ct_macro.proofs.reading.replace_function.Goals.{then-macro_, else-macro_}

pub returns-in_err-found : goal.returns-in_err-found
returns-in_err-found c = search rules

pub returns-in_err-arguments : goal.returns-in_err-arguments
returns-in_err-arguments c = search rules

pub returns-in_err-added : goal.returns-in_err-added
returns-in_err-added c = search rules

pub returns-in_err-push : goal.returns-in_err-push
returns-in_err-push c = search rules

pub returns-in_err-call : goal.returns-in_err-call
returns-in_err-call c = search rules

pub same-added : goal.same-added
same-added c = refl

pub same-arguments : goal.same-arguments
same-arguments c = refl

pub returns-in_default : goal.returns-in_default
returns-in_default c =
    record {
      reading = λ names next behind count at.
          open_call c.args.name c.args.place c.args.macro_.now names c.args.rest.now behind c.args.rest.now
          (subst (λ (l : List Marked). IsOpenCall l) (taken c.next-open.result c.args.rest.now c.next-open.new.self next behind c.next-open.ensures at) (rw c.in_default.is at c.in_ok-found.ensures));
    }

pub returns-in_default-2 : goal.returns-in_default-2
returns-in_default-2 c =
    record {
      reading = λ names next behind count at.
          let found = rw c.in-Some.is at c.in_ok-found.ensures in
          let most : c.if-macro_.most ≡ separators c.args.macro_.now.variadic names = elim c.if-macro_.branch [
            | then-macro_ w ↦ some_commas c.args.macro_.now.variadic names c.args.count c.if-macro_.most w.if-macro_.true w.most-is count
            | else-macro_ w ↦ any_comma c.args.macro_.now.variadic names c.if-macro_.most w.if-macro_.false w.most-is
          ] in
          bad_number c.args.name c.args.place c.args.macro_.now names c.args.rest.now behind c.read_call.new.source found.0 c.in-Some.found.close c.in-Some.found.arguments
          (subst (λ (l : List Marked). IsCall l found.0 c.in-Some.found.close c.read_call.new.source) (taken c.next-open.result c.args.rest.now c.next-open.new.self next behind c.next-open.ensures at) found.1)
          (subst (λ (m : Option ℕ). AreArguments m found.0 c.in-Some.found.arguments) most found.2)
          (sym c.in_default-2.is ∙ c.in_ok-arguments.ensures ∙ ap (λ n. arguments_for c.args.macro_.now.variadic n c.in-Some.found.arguments) (sym count));
    }

pub returns : goal.returns
returns c =
    record {
      reading = λ names next behind count at.
          let found = rw c.in-Some.is at c.in_ok-found.ensures in
          let most : c.if-macro_.most ≡ separators c.args.macro_.now.variadic names = elim c.if-macro_.branch [
            | then-macro_ w ↦ some_commas c.args.macro_.now.variadic names c.args.count c.if-macro_.most w.if-macro_.true w.most-is count
            | else-macro_ w ↦ any_comma c.args.macro_.now.variadic names c.if-macro_.most w.if-macro_.false w.most-is
          ] in
          good_call c.args.name c.args.place c.args.macro_.now names c.args.rest.now behind c.fit.new.self found.0 c.in-Some.found.close c.in-Some.found.arguments c.in-Some-2.arguments c.in_ok-call.call c.in_ok-call.fulls c.push.new.self
          (subst (λ (l : List Marked). IsCall behind found.0 c.in-Some.found.close l) (sym c.fit.ensures)
          (subst (λ (l : List Marked). IsCall l found.0 c.in-Some.found.close c.read_call.new.source) (taken c.next-open.result c.args.rest.now c.next-open.new.self next behind c.next-open.ensures at) found.1))
          (subst (λ (m : Option ℕ). AreArguments m found.0 c.in-Some.found.arguments) most found.2)
          (sym c.in-Some-2.is ∙ c.in_ok-arguments.ensures ∙ ap (λ n. arguments_for c.args.macro_.now.variadic n c.in-Some.found.arguments) (sym count))
          (c.in_ok-push.ensures ∙ ap (λ (l : List ℕ). l ++ c.args.place ∷ []) c.in_ok-added.ensures)
          c.in_ok-call.ensures.0 c.in_ok-call.ensures.1;
    }
