pub mod OpenDoor
