use Rattle.std.proofs.Common.{arith, refl, ap, subst, ◌∙◌, ℕ, List, Ok, Err}
use Rattle.std.specs.FinMap.{get}
use Rattle.ct_find.specs.Rows.{ReadsListedFile}
use Rattle.ct_find.proofs.ReadLemmas.{read_all, read_more, read_none, read_stops, small_empty, text_at}
use Rattle.ct_find.proofs.reading.read_files.Goals as goal

pub loop-path-init : goal.loop-path-init
loop-path-init g c = (
  λ files told there. read_none files c.args.paths.now c.new-texts.result c.new-texts.ensures,
  omega arith,
  small_empty c.new-texts.result c.new-texts.ensures,
  refl,
  refl,
  refl,
)

pub returns-in-Err-clause-told : goal.returns-in-Err-clause-told
returns-in-Err-clause-told g c files told there =
    let text = text_at files c.args.paths.now c.loop-path.path-index c.path-item.result there c.loop-path-test.true c.path-item.is in
    read_stops ℕ files c.args.paths.now c.loop-path.path-index c.loop-path.read c.path-item.result text.0 c.loop-path.texts c.read_file.new.texts c.in-Err.fail
    c.loop-path-test.true c.path-item.is text.1 (c.loop-path.invariant.0 files told there)
    (subst (λ (p : List ℕ). ReadsListedFile p text.0 c.loop-path.read c.loop-path.texts c.read_file.new.texts (Err c.in-Err.fail)) c.as_str.ensures
    (c.in-Err.ensures.told files text.0 (c.loop-path.invariant.3 ∙ told) (ap (get files) c.as_str.ensures ∙ text.1)))

pub loop-path-preserved : goal.loop-path-preserved
loop-path-preserved g c = (
  (λ files told there.
      let text = text_at files c.args.paths.now c.loop-path.path-index c.path-item.result there c.loop-path-test.true c.path-item.is in
      read_more files c.args.paths.now c.loop-path.path-index c.loop-path.read c.in-Ok.now c.path-item.result text.0 c.loop-path.texts c.read_file.new.texts
      c.loop-path-test.true c.path-item.is text.1 (c.loop-path.invariant.0 files told there)
      (subst (λ (p : List ℕ). ReadsListedFile p text.0 c.loop-path.read c.loop-path.texts c.read_file.new.texts (Ok c.in-Ok.now)) c.as_str.ensures
      (c.in-Ok.ensures.told files text.0 (c.loop-path.invariant.3 ∙ told) (ap (get files) c.as_str.ensures ∙ text.1)))),
  c.in-Ok.ensures.few,
  c.in-Ok.ensures.small c.loop-path.invariant.2,
  c.in-Ok.ensures.same_files ∙ c.loop-path.invariant.3,
  c.in-Ok.ensures.faults ∙ c.loop-path.invariant.4,
  c.in-Ok.ensures.write_faults ∙ c.loop-path.invariant.5,
)

pub returns-clause-told : goal.returns-clause-told
returns-clause-told g c files told there =
    read_all files c.args.paths.now c.loop-path.path-index c.loop-path.read c.loop-path.texts (omega (arith, c.loop-path.auto.path-index-end)) (c.loop-path.invariant.0 files told there)
