use Rattle.std.proofs.Common.{◌-ℤ◌, slice_index, ap}
use Rattle.pic_num.specs.Space.{Triple}
use Rattle.pic_field.specs.FieldPhases.{most_lessened}
use Rattle.pic_field.specs.Rows.{curl_at}
use Rattle.pic_field.proofs.LentLaws.{IsLent, lent_small, lent_changed, lent_calm}
use Rattle.pic_field.proofs.sweep.sweep_row.Goals as goal
use Rattle.pic_field.proofs.sweep.sweep_row.Goals.{After-values_mut-values}

-- the row that is lent
lent : (c : After-values_mut-values) → IsLent c.args.b.now c.args.axis c.args.y c.args.z c.values_mut-values.result.now c.row_start-start.result
    (slice_index c.zone-zone.result.size 0)
lent c = record {
  shape = c.zone-zone.ensures.shape;
  in_y = c.requires.y;
  in_z = c.requires.z;
  same = c.values_mut-values.ensures.value;
  at = c.row_start-start.ensures.value;
  end = c.row_start-start.ensures.end;
  size = ap (λ (n : Triple). n.x) c.zone-zone.ensures.size;
}

pub curl_row-requires-clause-small : goal.curl_row-requires-clause-small
curl_row-requires-clause-small c =
    lent_small _ _ _ _ _ _ _ (lent (goal.at.curl_row-requires-clause-small c).After-values_mut-values) most_lessened c.requires.small

pub returns-clause-changed : goal.returns-clause-changed
returns-clause-changed c =
    lent_changed _ _ _ _ _ _ _ (lent (goal.at.returns-clause-changed c).After-values_mut-values) c.curl_row.new.row c.curl_row.auto.row
    (λ a p v. v -ℤ curl_at c.args.four.now p.x) c.curl_row.ensures.values

pub returns-clause-calm : goal.returns-clause-calm
returns-clause-calm c = λ calm.
    lent_calm _ _ _ _ _ _ _ (lent (goal.at.returns-clause-calm c).After-values_mut-values) c.curl_row.new.row c.curl_row.auto.row
    c.args.step.now.most (c.curl_row.ensures.calm calm)
