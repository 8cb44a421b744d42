-- The listing's transactions, packed, are accepted in its store: the laws of accepted logs hold of something.
use Rattle.std.specs.Prelude.{◌≡◌, [], ◌∷◌, map, refl}
use Rattle.little.specs.Little.{number_in, bytes_of}
use Rattle.packed.specs.Checks.{entry_verdict}
use Rattle.packed.specs.Decode.{action_of, decode}
use Rattle.packed.specs.Encode.{action_bytes, set_bytes, encode}
use Rattle.packed.specs.Form.{action_nonzero, nonzero, malformed}
use Rattle.packed.specs.Kinds.{uses_of}
use Rattle.packed.specs.Records.{some_of, no_such_record, not_ascending, undeclared_read, undeclared_write}
use Rattle.counters.specs.Listing.{listing}
use Rattle.counters.specs.LawsAgreement.{AllAccepted, accepted_log}
use Rattle.counters.specs.OneByOne.{one_by_one}
use Rattle.counters.specs.Storing.{decided_run}

pub listing_accepted : AllAccepted 4 0 (map encode listing)
unfolding
    listing encode set_bytes action_bytes bytes_of number_in entry_verdict malformed nonzero action_nonzero
    no_such_record
    not_ascending undeclared_read undeclared_write some_of uses_of
listing_accepted = (refl, (refl, (refl, (refl, tt))))

pub listing_packs : map decode (map encode listing) ≡ listing
unfolding listing encode set_bytes action_bytes bytes_of number_in decode action_of
listing_packs = refl

pub listing_agrees : decided_run listing (10 ∷ 20 ∷ 30 ∷ 40 ∷ []) ≡ one_by_one listing (10 ∷ 20 ∷ 30 ∷ 40 ∷ [])
listing_agrees = rw listing_packs at (accepted_log (map encode listing) (10 ∷ 20 ∷ 30 ∷ 40 ∷ []) listing_accepted)
