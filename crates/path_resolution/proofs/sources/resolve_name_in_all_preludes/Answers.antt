use Rattle.std.proofs.Common.{sym}
use Rattle.path_resolution.proofs.Filled.{preludes_filled}
use Rattle.path_resolution.proofs.sources.resolve_name_in_all_preludes.Goals as goal

pub returns : goal.returns
returns g c =
    let s = c.args.index.now in
    rw (c.or.ensures, c.or-2.ensures, c.type_in_extern_prelude.ensures, c.resolve_in_macro_use_prelude.ensures, c.resolve_in_prelude-prelude.ensures, c.krate.ensures, sym (g.met.I.Index.tied s))
    (preludes_filled (g.I.Index.view s) c.args.m c.args.name c.args.expected)
