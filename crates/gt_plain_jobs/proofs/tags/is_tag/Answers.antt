use Rattle.std.proofs.Common.{Some, ap, ◌∙◌}
use Rattle.gt_object.specs.declared.kind.Kind.{Kind}
use Rattle.gt_object.specs.declared.kind.Kind.TheVariants.{Commit, Tree, Blob, Tag}
use Rattle.gt_plain_jobs.proofs.TagKinds.{tag_kind}
use Rattle.gt_plain_jobs.proofs.tags.is_tag.Goals as goal

pub returns-in-Tag : goal.returns-in-Tag
returns-in-Tag c = tag_kind c.args.whole.now Tag (c.kind.ensures ∙ ap (λ (k : Kind). Some k) c.in-Tag.is) c.bytes-bytes.ensures.sound

pub returns-in-Commit : goal.returns-in-Commit
returns-in-Commit c = tag_kind c.args.whole.now Commit (c.kind.ensures ∙ ap (λ (k : Kind). Some k) c.in-Commit.is) c.bytes-bytes.ensures.sound

pub returns-in-Tree : goal.returns-in-Tree
returns-in-Tree c = tag_kind c.args.whole.now Tree (c.kind.ensures ∙ ap (λ (k : Kind). Some k) c.in-Tree.is) c.bytes-bytes.ensures.sound

pub returns-in-Blob : goal.returns-in-Blob
returns-in-Blob c = tag_kind c.args.whole.now Blob (c.kind.ensures ∙ ap (λ (k : Kind). Some k) c.in-Blob.is) c.bytes-bytes.ensures.sound
