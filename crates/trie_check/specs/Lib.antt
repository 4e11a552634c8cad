pub mod Trie
