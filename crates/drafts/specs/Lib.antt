pub mod Drafts
