use Rattle.std.proofs.Common.{◌≡◌, ◌∷◌, false, arith, length, sym, ap, ◌∙◌}
use Rattle.ct_yaml.specs.Reading.{is_stop, plain_len}
use Rattle.ct_yaml.proofs.Scan.{plain_more, counts_behind}
use Rattle.ct_yaml.proofs.scalars.plain_len.Goals as goal

-- one more byte of the scalar
pub loop-byte-preserved : goal.loop-byte-preserved
loop-byte-preserved c =
    let spaced = c.loop-byte.spaced in
    let byte = c.in-Some.byte in
    let more = c.in-Some.more.now in
    let rest : c.loop-byte.rest.now ≡ byte ∷ more = c.in-Some.ensures in
    let on : is_stop spaced (byte ∷ more) ≡ false = ap (is_stop spaced) (sym rest) ∙ sym c.is_stop.ensures ∙ c.if-is_stop.false in
    record {
      read = omega (arith, ap (plain_len spaced) rest, plain_more spaced byte more on);
      within = omega (arith, ap length rest);
      goes_on = λ blank. counts_behind spaced byte more on (sym c.is_blank-goes_on.ensures ∙ blank);
    }
