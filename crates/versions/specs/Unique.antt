-- Each contract determines its function's result, or what the lent table holds at exit: two that satisfy it are equal.
use Rattle.std.specs.Prelude.{ℕ, Bool, List, ◌≡◌, set}
use Rattle.terms.specs.Unique.{same}
use Rattle.versions.specs.Chain.{walk_of}
use Rattle.versions.specs.Entry.{empty_entry, linked_of, ended_of, filled_of}
use Rattle.versions.specs.Seal.{newest_sound_of, collect_of}
use Rattle.versions.specs.Step.{link_of, fill_of}
use Rattle.versions.specs.Table.{entry_of, put_of, clear_of}
use Rattle.versions.specs.declared.Version.{Version}
use Rattle.versions.specs.declared.chain.Walked.{Walked}
use Rattle.versions.specs.declared.plan.Fill.{Fill}
use Rattle.versions.specs.declared.plan.Link.{Link}

pub empty_unique : (a b : Version) → a ≡ empty_entry → b ≡ empty_entry → a ≡ b
empty_unique a b = same

pub linked_unique : (old : Version) (position newest : ℕ) (a b : Version)
    → a ≡ linked_of old position newest → b ≡ linked_of old position newest → a ≡ b
linked_unique old position newest a b = same

pub ended_unique : (old : Version) (position : ℕ) (a b : Version)
    → a ≡ ended_of old position → b ≡ ended_of old position → a ≡ b
ended_unique old position a b = same

pub filled_unique : (old : Version) (new : ℕ) (a b : Version) → a ≡ filled_of old new → b ≡ filled_of old new → a ≡ b
filled_unique old new a b = same

pub entry_at_unique : (versions : List Version) (slot : ℕ) (a b : Version)
    → a ≡ entry_of versions slot → b ≡ entry_of versions slot → a ≡ b
entry_at_unique versions slot a b = same

pub put_unique : {T : Type 0} (table : List T) (k : ℕ) (entry : T) (a b : List T)
    → a ≡ set table k entry → b ≡ set table k entry → a ≡ b
put_unique table k entry a b = same

pub put_at_unique : (versions : List Version) (slot : ℕ) (version : Version) (a b : List Version)
    → a ≡ put_of versions slot version → b ≡ put_of versions slot version → a ≡ b
put_at_unique versions slot version a b = same

pub clear_unique : (versions : List Version) (count : ℕ) (a b : List Version)
    → a ≡ clear_of versions count → b ≡ clear_of versions count → a ≡ b
clear_unique versions count a b = same

pub link_unique : (versions : List Version) (plan : Link) (a b : List Version)
    → a ≡ link_of versions plan → b ≡ link_of versions plan → a ≡ b
link_unique versions plan a b = same

pub fill_unique : (versions : List Version) (plan : Fill) (a b : List Version)
    → a ≡ fill_of versions plan → b ≡ fill_of versions plan → a ≡ b
fill_unique versions plan a b = same

pub walk_unique : (versions : List Version) (newest bound position : ℕ) (a b : Walked)
    → a ≡ walk_of versions newest bound position → b ≡ walk_of versions newest bound position → a ≡ b
walk_unique versions newest bound position a b = same

pub newest_sound_unique : (versions : List Version) (newest : List ℕ) (bound : ℕ) (a b : Bool)
    → a ≡ newest_sound_of versions newest bound → b ≡ newest_sound_of versions newest bound → a ≡ b
newest_sound_unique versions newest bound a b = same

pub collect_unique : (versions : List Version) (newest records : List ℕ) (on : Bool) (a b : List ℕ)
    → a ≡ collect_of versions newest records on → b ≡ collect_of versions newest records on → a ≡ b
collect_unique versions newest records on a b = same
