use Rattle.store_model.proofs.Merges.{merge_leveled}
use Rattle.store_model.proofs.MergeViews.{merge_keeps, merge_table_view}
use Rattle.store_model.proofs.merges_keep.Goals as goal

pub returns-clause-list : goal.returns-clause-list
returns-clause-list c = λ l store plan floor outputs after ok way merged edited low.
    merge_keeps l store plan floor outputs after ok way merged edited low

pub returns-clause-views : goal.returns-clause-views
returns-clause-views c = λ flushed base floor plan old outputs new ok fits alike merged edited. (
  merge_leveled flushed base floor plan old outputs new ok fits alike merged edited,
  λ at high key value shown.
      merge_table_view flushed base floor plan old outputs new ok fits alike merged edited at high
      key value shown,
)
