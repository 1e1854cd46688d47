use Rattle.std.proofs.Common.{ap, ◌∙◌}
use Rattle.std.specs.Prelude.{List}
use Rattle.tf_dest.specs.declared.held.Held.{Held}
use Rattle.tf_dest.specs.Tables.{rows_of}
use Rattle.tf_dest.proofs.RowLaws.{page_is_rows}
use Rattle.tf_core.proofs.Set.{paged_same}
use Rattle.tf_core.proofs.transform.Transform.page.Goals as goal

pub returns : goal.returns
returns c = record {
  same = paged_same c.args.self.now c.args.n c.args.rows c.upsert_page.new.self c.args.position c.len.result (c.len.ensures ∙ c.args.rows.ok.0);
  rows = ap (λ (held : List Held). rows_of held) c.upsert_page.ensures.held ∙ page_is_rows c.args.rows.items c.args.self.now.rows.held;
  places = c.upsert_page.ensures.places;
}
