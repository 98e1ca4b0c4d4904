use Rattle.ct_settings.proofs.SettingPaths.{settings_paths}
use Rattle.ct_settings.proofs.table.settings.Goals as goal

pub returns-clause-paths : goal.returns-clause-paths
returns-clause-paths c =
    settings_paths c.args.node.now _ (rw (c.in_ok-project.ensures, c.in_ok-paths.ensures, c.in_ok-defines.ensures, c.in_ok-cmock.ensures))
