-- A board as its callers see it.
use Rattle.atomic_table.specs.Seated.{TableId}
use Rattle.pic_yard.specs.declared.opening.Opening.{Opening}

-- what it began with, and which table of words and slots it is
pub record YardValue : Type 0 where
  pub opening : Opening
  pub table_id : TableId
