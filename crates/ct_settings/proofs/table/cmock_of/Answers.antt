use Rattle.std.proofs.Common.{rules}
use Rattle.ct_settings.specs.Rows.{row}
use Rattle.ct_settings.proofs.table.cmock_of.Goals as goal

pub returns : goal.returns
returns c = rw (c.in_ok-cmock.ensures, c.in_ok-mock_prefix.ensures, c.in_ok-plugins.ensures, c.in_ok-strict.ensures, c.in_ok-when_ptr.ensures, c.in_ok-callback_count.ensures) (cc)

pub returns-in_err-callback_count : goal.returns-in_err-callback_count
unfolding row
returns-in_err-callback_count c = rw (c.in_ok-cmock.ensures, c.in_ok-mock_prefix.ensures, c.in_ok-plugins.ensures, c.in_ok-strict.ensures, c.in_ok-when_ptr.ensures) (search rules)
