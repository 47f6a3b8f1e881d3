-- Each sentence is that of its refusal: long texts are too deep for a search that rewrites.
use Rattle.fare_sentences.proofs.refusals.push_desk_words.Goals as goal

pub returns-in-NoEdition : goal.returns-in-NoEdition
returns-in-NoEdition c = rw c.in-NoEdition.is c.push_day.ensures

pub returns-in-UnknownPlace : goal.returns-in-UnknownPlace
returns-in-UnknownPlace c = rw c.in-UnknownPlace.is c.push_city.ensures

pub returns-in_ok-extend_from_slice-in-ReadFault : goal.returns-in_ok-extend_from_slice-in-ReadFault
returns-in_ok-extend_from_slice-in-ReadFault c = rw c.in-ReadFault.is c.in_ok-extend_from_slice-in-ReadFault.ensures.items

pub returns-in_ok-extend_from_slice-in-KeeperFault : goal.returns-in_ok-extend_from_slice-in-KeeperFault
returns-in_ok-extend_from_slice-in-KeeperFault c = rw c.in-KeeperFault.is c.in_ok-extend_from_slice-in-KeeperFault.ensures.items
