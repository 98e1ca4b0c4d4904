use Rattle.std.proofs.Common.{rules, ◌≡◌, ◌∷◌, ◌++◌, [], ◌+◌, ◌≤◌, List, take, drop, length, ap, refl, sym, subst, ◌∙◌, arith}
use Rattle.ct_macro_call.specs.declared.marked.Marked.{Marked}
use Rattle.std.proofs.lemmas.List.{append-nil}
use Rattle.ct_base.specs.declared.memory.Fail.TheVariants.{Fault}
use Rattle.ct_macro.specs.declared.expander.Frame.{Frame}
use Rattle.ct_macro.specs.Expansion.{IsReading, replaced, fault_at, stay_behind}
use Rattle.ct_macro.specs.Machine.{weight_each, weight_frames}
use Rattle.ct_macro.proofs.Weights.{drop_shorter, reads_lighter}
use Rattle.ct_macro.proofs.Steps.{on_ok, if_fault, fault_is, kept_reading, refused_reading, replaced_reading, comes_moved, kept_comes, refused_comes, replaced_comes}
use Rattle.ct_macro.proofs.expander.Expander.read.Goals as goal

pub returns-in_err-token-clause-goes : goal.returns-in_err-token-clause-goes
returns-in_err-token-clause-goes c = search rules

pub returns-in_err-token-clause-within : goal.returns-in_err-token-clause-within
returns-in_err-token-clause-within c = search rules

pub returns-in_err-token-clause-fault : goal.returns-in_err-token-clause-fault
returns-in_err-token-clause-fault c = search rules

pub returns-in_err-keep-in-Kept-clause-goes : goal.returns-in_err-keep-in-Kept-clause-goes
returns-in_err-keep-in-Kept-clause-goes c = search rules

pub returns-in_err-keep-in-Kept-clause-within : goal.returns-in_err-keep-in-Kept-clause-within
returns-in_err-keep-in-Kept-clause-within c = search rules

pub returns-in_err-keep-in-Kept-clause-fault : goal.returns-in_err-keep-in-Kept-clause-fault
returns-in_err-keep-in-Kept-clause-fault c = search rules

pub returns-in_err-put_front-in-Replaced-clause-goes : goal.returns-in_err-put_front-in-Replaced-clause-goes
returns-in_err-put_front-in-Replaced-clause-goes c = search rules

pub returns-in_err-put_front-in-Replaced-clause-within : goal.returns-in_err-put_front-in-Replaced-clause-within
returns-in_err-put_front-in-Replaced-clause-within c = search rules

pub returns-in_err-put_front-in-Replaced-clause-fault : goal.returns-in_err-put_front-in-Replaced-clause-fault
returns-in_err-put_front-in-Replaced-clause-fault c = search rules

pub same-waiting : goal.same-waiting
same-waiting c = refl

pub go_on-requires : goal.go_on-requires
go_on-requires c = c.requires

pub returns-in_ok-keep-in-Kept-clause-goes : goal.returns-in_ok-keep-in-Kept-clause-goes
returns-in_ok-keep-in-Kept-clause-goes c =
    let read = kept_reading c.args.macros.now c.args.first c.args.self.now.rest c.in_ok-token.field-0 c.read_token.new.rest c.in-Kept.token c.in_ok-token.ensures.reading c.in-Kept.is in
    let stays = c.in_ok-keep-in-Kept.ensures in
    let asks = c.args.self.now.condition in
    let front : c.keep.new.self.done ≡ c.args.self.now.done ++ c.args.first ∷ take (stay_behind asks c.args.first c.args.self.now.rest) c.args.self.now.rest =
    stays.3 ∙ ap (λ (t : Marked). c.args.self.now.done ++ t ∷ take (stay_behind asks t c.read_token.new.rest) c.read_token.new.rest) read.1
    ∙ ap (λ (r : List Marked). c.args.self.now.done ++ c.args.first ∷ take (stay_behind asks c.args.first r) r) read.2 in
    let behind : c.keep.new.self.rest ≡ drop (stay_behind asks c.args.first c.args.self.now.rest) c.args.self.now.rest =
    stays.4 ∙ ap (λ (t : Marked). drop (stay_behind asks t c.read_token.new.rest) c.read_token.new.rest) read.1
    ∙ ap (λ (r : List Marked). drop (stay_behind asks c.args.first r) r) read.2 in
    λ before condition counted calls done rest outer comes.
    comes_moved c.args.macros.now c.args.room asks before.condition c.args.self.now.counted before.counted c.args.self.now.calls before.calls c.args.self.now.done before.done (c.args.first ∷ c.args.self.now.rest) before.rest outer (sym condition) (sym counted) (sym calls) (sym done) (sym rest)
    (kept_comes c.args.macros.now c.args.room asks c.args.self.now.counted c.args.self.now.calls c.args.self.now.done c.args.first c.args.self.now.rest outer read.0
    (comes_moved c.args.macros.now c.args.room c.keep.new.self.condition asks c.keep.new.self.counted c.args.self.now.counted c.keep.new.self.calls c.args.self.now.calls c.keep.new.self.done _ c.keep.new.self.rest _ outer
    stays.0 stays.1 stays.2 front behind comes))

pub returns-in_ok-keep-in-Kept-clause-within : goal.returns-in_ok-keep-in-Kept-clause-within
returns-in_ok-keep-in-Kept-clause-within c =
    let read = kept_reading c.args.macros.now c.args.first c.args.self.now.rest c.in_ok-token.field-0 c.read_token.new.rest c.in-Kept.token c.in_ok-token.ensures.reading c.in-Kept.is in
    let stays = c.in_ok-keep-in-Kept.ensures in
    let shorter = drop_shorter (stay_behind c.args.self.now.condition c.in-Kept.token c.read_token.new.rest) c.read_token.new.rest in
    (omega (arith, c.requires, stays.1), omega (arith, stays.1, ap weight_frames stays.2, ap length stays.4, shorter, ap length read.2))

pub returns-in-Refused-clause-fault : goal.returns-in-Refused-clause-fault
returns-in-Refused-clause-fault c =
    let read = refused_reading c.args.macros.now c.args.first c.args.self.now.rest c.in_ok-token.field-0 c.read_token.new.rest c.in-Refused.kind c.in-Refused.name c.in_ok-token.ensures.reading c.in-Refused.is in
    fault_is (Unit {0}) _ _ c.refusal.result (fault_at c.in-Refused.kind c.args.first) (c.refusal.ensures ∙ ap (λ (n : Marked). Fault (fault_at c.in-Refused.kind n)) read.1)
    (λ before condition counted calls front rest.
    comes_moved c.args.macros.now c.args.room c.args.self.now.condition before.condition c.args.self.now.counted before.counted c.args.self.now.calls before.calls c.args.self.now.done before.done (c.args.first ∷ c.args.self.now.rest) before.rest _ (sym condition) (sym counted) (sym calls) (sym front) (sym rest)
    (refused_comes c.args.macros.now c.args.room c.args.self.now.condition c.args.self.now.counted c.args.self.now.calls c.args.self.now.done c.args.first c.args.self.now.rest c.in-Refused.kind read.0))

pub returns-in_ok-put_front-in-Replaced-clause-goes : goal.returns-in_ok-put_front-in-Replaced-clause-goes
returns-in_ok-put_front-in-Replaced-clause-goes c =
    let frame : Frame = record { call = c.in-Replaced.call; waiting = c.put_front.new.self; fulls = c.new.result; done = c.replace.result; rest = c.replace-in-Replaced.result; condition = c.args.self.now.condition } in
    let reads = replaced_reading c.args.macros.now c.args.first c.args.self.now.rest c.in_ok-token.field-0 c.read_token.new.rest c.in-Replaced.call c.in-Replaced.arguments c.in_ok-token.ensures.reading c.in-Replaced.is in
    let waiting : c.put_front.new.self ≡ c.in-Replaced.arguments = c.in_ok-put_front-in-Replaced.ensures ∙ ap (λ (l : List (List Marked)). c.in-Replaced.arguments ++ l) c.new-waiting.ensures ∙ append-nil c.in-Replaced.arguments in
    let moved : IsReading c.args.macros.now c.args.first c.args.self.now.rest (replaced frame.call frame.waiting frame.rest) =
    subst (λ (w : List (List Marked)). IsReading c.args.macros.now c.args.first c.args.self.now.rest (replaced c.in-Replaced.call w c.replace-in-Replaced.result)) (sym waiting)
    (subst (λ (r : List Marked). IsReading c.args.macros.now c.args.first c.args.self.now.rest (replaced c.in-Replaced.call c.in-Replaced.arguments r)) (sym c.replace-in-Replaced.ensures.value) reads) in
    on_ok _ _ c.go_on.result _ _ c.go_on.ensures.ok
    (λ goes before condition counted calls front rest outer comes.
    comes_moved c.args.macros.now c.args.room c.args.self.now.condition before.condition c.args.self.now.counted before.counted c.args.self.now.calls before.calls c.replace.result before.done (c.args.first ∷ c.args.self.now.rest) before.rest outer (sym condition) (sym counted) (sym calls) (c.replace.ensures.value ∙ sym front) (sym rest)
    (replaced_comes c.args.macros.now c.args.room c.args.self.now.counted c.args.self.now.calls c.args.first c.args.self.now.rest frame outer moved c.new.ensures (goes c.args.macros.now outer comes)))

pub returns-in_ok-put_front-in-Replaced-clause-within : goal.returns-in_ok-put_front-in-Replaced-clause-within
returns-in_ok-put_front-in-Replaced-clause-within c =
    let frame : Frame = record { call = c.in-Replaced.call; waiting = c.put_front.new.self; fulls = c.new.result; done = c.replace.result; rest = c.replace-in-Replaced.result; condition = c.args.self.now.condition } in
    let reads = replaced_reading c.args.macros.now c.args.first c.args.self.now.rest c.in_ok-token.field-0 c.read_token.new.rest c.in-Replaced.call c.in-Replaced.arguments c.in_ok-token.ensures.reading c.in-Replaced.is in
    let waiting : c.put_front.new.self ≡ c.in-Replaced.arguments = c.in_ok-put_front-in-Replaced.ensures ∙ ap (λ (l : List (List Marked)). c.in-Replaced.arguments ++ l) c.new-waiting.ensures ∙ append-nil c.in-Replaced.arguments in
    let lighter : weight_each c.in-Replaced.arguments + length c.read_token.new.rest ≤ length c.args.self.now.rest =
    reads_lighter c.args.macros.now c.args.first c.args.self.now.rest c.in-Replaced.call c.in-Replaced.arguments c.read_token.new.rest reads in
    on_ok _ _ c.go_on.result _ _ c.go_on.ensures.within
    (λ within. (within.0, omega (arith, within.1, lighter, ap weight_each waiting, ap length c.replace-in-Replaced.ensures.value)))

pub returns-in_ok-put_front-in-Replaced-clause-fault : goal.returns-in_ok-put_front-in-Replaced-clause-fault
returns-in_ok-put_front-in-Replaced-clause-fault c =
    let frame : Frame = record { call = c.in-Replaced.call; waiting = c.put_front.new.self; fulls = c.new.result; done = c.replace.result; rest = c.replace-in-Replaced.result; condition = c.args.self.now.condition } in
    let reads = replaced_reading c.args.macros.now c.args.first c.args.self.now.rest c.in_ok-token.field-0 c.read_token.new.rest c.in-Replaced.call c.in-Replaced.arguments c.in_ok-token.ensures.reading c.in-Replaced.is in
    let waiting : c.put_front.new.self ≡ c.in-Replaced.arguments = c.in_ok-put_front-in-Replaced.ensures ∙ ap (λ (l : List (List Marked)). c.in-Replaced.arguments ++ l) c.new-waiting.ensures ∙ append-nil c.in-Replaced.arguments in
    let moved : IsReading c.args.macros.now c.args.first c.args.self.now.rest (replaced frame.call frame.waiting frame.rest) =
    subst (λ (w : List (List Marked)). IsReading c.args.macros.now c.args.first c.args.self.now.rest (replaced c.in-Replaced.call w c.replace-in-Replaced.result)) (sym waiting)
    (subst (λ (r : List Marked). IsReading c.args.macros.now c.args.first c.args.self.now.rest (replaced c.in-Replaced.call c.in-Replaced.arguments r)) (sym c.replace-in-Replaced.ensures.value) reads) in
    if_fault _ _ c.go_on.result _ _ c.go_on.ensures.fault
    (λ fault goes before condition counted calls front rest.
    comes_moved c.args.macros.now c.args.room c.args.self.now.condition before.condition c.args.self.now.counted before.counted c.args.self.now.calls before.calls c.replace.result before.done (c.args.first ∷ c.args.self.now.rest) before.rest _ (sym condition) (sym counted) (sym calls) (c.replace.ensures.value ∙ sym front) (sym rest)
    (replaced_comes c.args.macros.now c.args.room c.args.self.now.counted c.args.self.now.calls c.args.first c.args.self.now.rest frame _ moved c.new.ensures (goes c.args.macros.now)))
