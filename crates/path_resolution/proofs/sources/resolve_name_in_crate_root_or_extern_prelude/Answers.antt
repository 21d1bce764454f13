use Rattle.std.proofs.Common.{sym}
use Rattle.path_resolution.proofs.Filled.{root_filled}
use Rattle.path_resolution.proofs.sources.resolve_name_in_crate_root_or_extern_prelude.Goals as goal

pub returns : goal.returns
returns g c =
    let s = c.args.index.now in
    rw (c.or.ensures, c.extern_prelude.ensures, c.get-from_crate_root.ensures, c.crate_root-root.ensures, c.krate.ensures, sym (g.met.I.Index.tied s))
    (root_filled (g.I.Index.view s) c.args.m c.args.name)
