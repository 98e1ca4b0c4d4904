use Rattle.std.proofs.Common.{refl, sym}
use Rattle.std.proofs.lemmas.Bool.{false≢true}
use Rattle.std.proofs.lemmas.Result.{IfOk-weaker}
use Rattle.ct_macro_call.specs.Sets.{is_in}
use Rattle.ct_macro.specs.Expansion.{kept, use_of_macro, reading_of_object}
use Rattle.ct_macro.proofs.Readings.{hidden_reads, shown_reads, object_reads, uncalled_reads, called_reads}
use Rattle.ct_macro.proofs.reading.replace.Goals as goal

pub returns-then-contains : goal.returns-then-contains
returns-then-contains c =
    record { reading = (kept, hidden_reads (is_in c.args.place c.args.name.hidden) c.args.name c.args.rest.now (use_of_macro c.args.place c.args.macro_.now c.args.macro_.now.parameters c.args.rest.now) c.if-contains.ensures, (refl, refl, refl)) }

pub returns-in_default : goal.returns-in_default
returns-in_default c =
    record {
      reading = IfOk-weaker c.replace_object.result _ _
          (λ step gives. (
            reading_of_object c.args.name c.args.place c.args.macro_.now c.args.rest.now,
            shown_reads (is_in c.args.place c.args.name.hidden) c.args.name c.args.rest.now (use_of_macro c.args.place c.args.macro_.now c.args.macro_.now.parameters c.args.rest.now) (reading_of_object c.args.name c.args.place c.args.macro_.now c.args.rest.now) c.if-contains.ensures
                (object_reads c.args.name c.args.place c.args.macro_.now c.args.macro_.now.parameters c.args.rest.now c.in_default.is),
            gives c.args.rest.now,
          ))
          c.replace_object.ensures.reading;
    }

pub returns-then-not-begins_call : goal.returns-then-not-begins_call
returns-then-not-begins_call c =
    record {
      reading = (
        kept,
        shown_reads (is_in c.args.place c.args.name.hidden) c.args.name c.args.rest.now (use_of_macro c.args.place c.args.macro_.now c.args.macro_.now.parameters c.args.rest.now) kept c.if-contains.ensures
            (uncalled_reads c.args.name c.args.place c.args.macro_.now c.args.macro_.now.parameters c.in-Some.parameters c.args.rest.now c.in-Some.is (λ called. false≢true (c.if-not-begins_call.ensures.1 called))),
        (refl, refl, refl),
      );
    }

pub returns : goal.returns
returns c =
    let called = c.if-not-begins_call.ensures.0 refl in
    record {
      reading = IfOk-weaker c.replace_function.result _ _
          (λ step gives.
          let given = gives c.in-Some.parameters called.0 called.1 (sym c.len.ensures) called.2 in (
            given.0,
            shown_reads (is_in c.args.place c.args.name.hidden) c.args.name c.args.rest.now (use_of_macro c.args.place c.args.macro_.now c.args.macro_.now.parameters c.args.rest.now) given.0 c.if-contains.ensures
                (called_reads c.args.name c.args.place c.args.macro_.now c.args.macro_.now.parameters c.in-Some.parameters c.args.rest.now called.0 called.1 given.0 c.in-Some.is called.2 called.3 given.1),
            given.2,
          ))
          c.replace_function.ensures.reading;
    }
