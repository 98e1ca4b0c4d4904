use Rattle.ct_settings.proofs.table.project_of.Goals as goal

pub returns : goal.returns
returns c = rw (c.in_ok-project.ensures, c.in_ok-build_root.ensures, c.in_ok-test_prefix.ensures)
